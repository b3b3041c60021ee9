use Rattle.arith.specs.Bits.{unpacked}
use Rattle.judging.proofs.verdicts.Judgements.{Filled}
use Rattle.plan_reading.proofs.fields.FieldReads.{tasks_at}
use Rattle.plan_reading.proofs.fields.plan_in.Given as goal

abbrev pub invariant-loop-i : goal.invariant-loop-i
invariant-loop-i l = Filled (tasks_at l.edition (unpacked l.block) l.count) l.count l.q l.i
