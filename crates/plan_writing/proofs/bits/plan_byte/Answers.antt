use Prim.Native.Nat.{◌<◌, ◌+◌, ◌*◌}
use native.Mathlib.Omega.{arith}
use Rattle.arith.proofs.DigitLaws.{read_more, read_cap}
use Rattle.plan.specs.Blocks.{tasks_of}
use Rattle.plan.proofs.BlockBits.{plan_bits_below}
use Rattle.plan_writing.proofs.bits.plan_byte.Goals.{After-plan_bit}
use Rattle.plan_writing.proofs.bits.plan_byte.Goals as goal

-- a bit is 0 or 1
small : (c : After-plan_bit) → c.plan_bit.result < 2
small c =
    omega (arith, plan_bits_below c.args.edition (tasks_of c.args.p) (8 * c.args.j + c.loop-i.i))

pub overflow_add-acc : goal.overflow_add-acc
overflow_add-acc c = omega (arith, read_cap c.loop-i.invariant 7 (omega arith) (omega arith), small c)

pub loop-i-preserved : goal.loop-i-preserved
loop-i-preserved c = read_more c.loop-i.invariant c.plan_bit.ensures (small c)
