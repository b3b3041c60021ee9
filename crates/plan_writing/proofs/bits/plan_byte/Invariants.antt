use Prim.Native.Nat.{◌*◌}
use Rattle.arith.proofs.DigitLaws.{ReadTo}
use Rattle.plan.specs.Blocks.{tasks_of, plan_bits}
use Rattle.plan_writing.proofs.bits.plan_byte.Given as goal

abbrev pub invariant-loop-i : goal.invariant-loop-i
invariant-loop-i l = ReadTo 2 (plan_bits l.edition (tasks_of l.p)) (8 * l.j) l.acc l.i
