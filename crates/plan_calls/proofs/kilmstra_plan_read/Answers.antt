use Rattle.plan_calls.proofs.Packing.{read_most}
use Rattle.std.proofs.Common.{rules}
use Rattle.plan_calls.proofs.kilmstra_plan_read.Goals as goal

-- no step is cited by its name, so that a wrong answer is refused where it returns
pub verdict_number-requires : goal.verdict_number-requires
verdict_number-requires c = search (rules, read_most c.args.levels.now c.args.block.now)
