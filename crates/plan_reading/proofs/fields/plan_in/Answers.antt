use native.Mathlib.Omega.{arith}
use Rattle.arith.specs.Bits.{unpacked}
use Rattle.judging.proofs.verdicts.Judgements.{filled_more}
use Rattle.plan_reading.proofs.fields.FieldReads.{tasks_listed, task_from_lem, plan_read}
use Rattle.plan_reading.proofs.fields.plan_in.Goals as goal

pub loop-i-preserved : goal.loop-i-preserved
loop-i-preserved c =
    let edition = c.args.edition in
    let bits = unpacked c.args.block.now in
    let count = c.args.count in
    filled_more c.loop-i.invariant (tasks_listed edition bits count) (omega arith) (omega arith) (task_from_lem edition bits count c.loop-i-test.true c.task_in.ensures)

pub returns : goal.returns
returns c =
    plan_read c.args.edition (unpacked c.args.block.now) c.args.count c.loop-i.invariant (omega arith)
