use Rattle.std.proofs.Common.{length, rules}
use Rattle.plan_calls.proofs.Packing.{copy_most}
use Rattle.plan_calls.proofs.kilmstra_plan_copy.Goals as goal

-- no step is cited by its name, so that a wrong answer is refused where it returns
pub counted_number-requires : goal.counted_number-requires
counted_number-requires c =
    search (rules, copy_most c.args.levels.now c.args.block.now (length c.args.buffer.now))
