use Prim.Native.Nat.{ℕ, ◌+◌, ◌*◌, ◌≤◌}
use mathlib.Core.Path.{◌≡◌, sym, subst}
use native.Mathlib.Omega.{arith}
use lib.ListN.{length}
use Rattle.arith.specs.Bits.{unpacked}
use Rattle.plan.specs.Blocks.{task_width}
use Rattle.plan.proofs.BlockBits.{width_least, bit_count_room}
use Rattle.plan_reading.proofs.fields.FieldReads.{width_added, task_read}
use Rattle.plan_reading.proofs.fields.task_in.Goals.{After-bit_count-at}
use Rattle.plan_reading.proofs.fields.task_in.Goals as goal

pub returns : goal.returns
returns c =
    task_read c.args.edition c.args.i (unpacked c.args.block.now)
    c.bit_count-at.ensures
    c.bits_at-period.ensures
    c.bits_at-worst.ensures
    c.addition_in-fixed.ensures
    c.addition_in-floor.ensures

-- the task's fields stand within the block, and its period and worst case are among them
room : (c : After-bit_count-at) → (c.bit_count-at.result ≤ 761) × (c.bit_count-at.result + task_width c.args.edition ≤ 8 * length c.args.block.now)
room c =
    let bits = 8 * length c.args.block.now in
    subst (λ (at : ℕ). (at ≤ 761) × (at + task_width c.args.edition ≤ bits)) (sym c.bit_count-at.ensures)
    (bit_count_room c.args.edition c.args.i bits c.requires.0 c.requires.1)

wide : (c : After-bit_count-at) → 36 ≤ task_width c.args.edition
wide c = width_least c.args.edition

-- in edition 2 its additions are too
added : (c : After-bit_count-at) (past n : ℕ) →
    past + n ≤ 47 →
    c.args.edition ≡ 2 →
    c.bit_count-at.result + past + n ≤ 8 * length c.args.block.now
added c past n h two = omega (arith, (room c).1, width_added c.args.edition two)

pub bits_at-period-requires : goal.bits_at-period-requires
bits_at-period-requires c = omega (arith, (room c).0, (room c).1, wide c)

pub overflow_add-at : goal.overflow_add-at
overflow_add-at c = omega (arith, (room (goal.at.overflow_add-at c).After-bit_count-at).0)

pub bits_at-worst-requires : goal.bits_at-worst-requires
bits_at-worst-requires c = omega (arith, (room (goal.at.bits_at-worst-requires c).After-bit_count-at).0, (room (goal.at.bits_at-worst-requires c).After-bit_count-at).1, wide (goal.at.bits_at-worst-requires c).After-bit_count-at)

pub overflow_add-at-2 : goal.overflow_add-at-2
overflow_add-at-2 c = omega (arith, (room (goal.at.overflow_add-at-2 c).After-bit_count-at).0)

pub addition_in-fixed-requires : goal.addition_in-fixed-requires
addition_in-fixed-requires c = (omega arith, omega (arith, (room (goal.at.addition_in-fixed-requires c).After-bit_count-at).0), added (goal.at.addition_in-fixed-requires c).After-bit_count-at 36 8 (omega arith))

pub overflow_add-at-3 : goal.overflow_add-at-3
overflow_add-at-3 c = omega (arith, (room (goal.at.overflow_add-at-3 c).After-bit_count-at).0)

pub addition_in-floor-requires : goal.addition_in-floor-requires
addition_in-floor-requires c =
    (omega arith, omega (arith, (room (goal.at.addition_in-floor-requires c).After-bit_count-at).0), added (goal.at.addition_in-floor-requires c).After-bit_count-at 44 3 (omega arith))
