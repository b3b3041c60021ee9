use Rattle.std.proofs.Common.{◌≡◌, ap, rules}
use lib.ListN.{length}
use Rattle.plan.specs.declared.Plan.{Plan}
use Rattle.plan.specs.Answers.{write_plan, write_buffer}
use Rattle.plan.specs.Numbers.{plan_from}
use Rattle.plan_calls.proofs.Packing.{wrote_most}
use Rattle.plan_calls.proofs.kilmstra_plan_write.Goals as goal

-- the call of `write` is not cited by its name, so that a wrong answer is refused where it returns
pub counted_number-requires : goal.counted_number-requires
counted_number-requires c =
    search (rules, wrote_most c.args.levels.now c.plan_from-p.result (length c.args.buffer.now))

pub returns-clause-value : goal.returns-clause-value
returns-clause-value c =
    let moved : write_plan c.args.levels.now c.plan_from-p.result (length c.args.buffer.now)
    ≡ write_plan c.args.levels.now (plan_from c.args.count c.args.numbers.now) (length c.args.buffer.now) =
    ap (λ (p : Plan). write_plan c.args.levels.now p (length c.args.buffer.now)) c.plan_from-p.ensures in
    search (rules, moved)

pub returns-clause-buffer_after : goal.returns-clause-buffer_after
returns-clause-buffer_after c =
    let moved : write_buffer c.args.levels.now c.plan_from-p.result c.args.buffer.now
    ≡ write_buffer c.args.levels.now (plan_from c.args.count c.args.numbers.now) c.args.buffer.now =
    ap (λ (p : Plan). write_buffer c.args.levels.now p c.args.buffer.now) c.plan_from-p.ensures in
    search (rules, moved)
