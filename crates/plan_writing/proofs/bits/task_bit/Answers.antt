use Prim.Native.Nat.{◌-◌, ◌/◌, ◌%◌, ◌<◌}
use native.Mathlib.Omega.{arith}
use borrow.Author.Rules.{rules}
use Rattle.arith.proofs.Loops.{length_mapped}
use Rattle.plan.specs.Blocks.{task_width}
use Rattle.plan.proofs.BlockBits.{width_least, width_most}
use Rattle.plan.proofs.Held.{Held}
use Rattle.plan_writing.proofs.bits.PutLaws.{AtTask, at_task, rest_below, bit_past, bit_period, bit_worst, bit_fixed, bit_floor}
use Rattle.plan_writing.proofs.bits.task_bit.Goals.{After-task_width-width, Start}
use Rattle.plan_writing.proofs.bits.task_bit.Goals as goal

plan : (c : Start) → Held c.args.p
plan c = record { places = search (length_mapped, rules); most = c.requires.0 }

-- where the bit stands
place : (c : After-task_width-width) →
    AtTask c.args.p c.args.edition c.args.k ((c.args.k - 9) / c.task_width-width.result) ((c.args.k - 9) % c.task_width-width.result)
place c =
    let plan : Held c.args.p = record { places = search (length_mapped, rules); most = c.requires.0 } in
    at_task plan c.args.edition c.args.k c.task_width-width.ensures c.requires.1

within : (c : After-task_width-width) → (c.args.k - 9) % c.task_width-width.result < task_width c.args.edition
within c = rest_below c.args.edition (c.args.k - 9) c.task_width-width.ensures

pub nonzero_div-i : goal.nonzero_div-i
nonzero_div-i c = omega (arith, c.task_width-width.ensures, width_least c.args.edition)

pub nonzero_rem-r : goal.nonzero_rem-r
nonzero_rem-r c = omega (arith, c.task_width-width.ensures, width_least c.args.edition)

pub returns-then-count-i : goal.returns-then-count-i
returns-then-count-i c = bit_past (place (goal.at.returns-then-count-i c).After-task_width-width) c.if-count-i.true

pub returns-then-r-lt16 : goal.returns-then-r-lt16
returns-then-r-lt16 c =
    bit_period (place (goal.at.returns-then-r-lt16 c).After-task_width-width) c.if-count-i.false c.if-r-lt16.true c.bit_of.ensures

pub returns-then-r-lt36 : goal.returns-then-r-lt36
returns-then-r-lt36 c =
    bit_worst (place (goal.at.returns-then-r-lt36 c).After-task_width-width) c.if-count-i.false c.if-r-lt16.false c.if-r-lt36.true c.bit_of-then-r-lt36.ensures

pub returns-then-r-lt44 : goal.returns-then-r-lt44
returns-then-r-lt44 c =
    bit_fixed (place (goal.at.returns-then-r-lt44 c).After-task_width-width) c.if-count-i.false (within (goal.at.returns-then-r-lt44 c).After-task_width-width) c.if-r-lt36.false c.if-r-lt44.true c.bit_of-then-r-lt44.ensures

pub overflow_sub-r-2 : goal.overflow_sub-r-2
overflow_sub-r-2 c =
    omega (arith, within (goal.at.overflow_sub-r-2 c).After-task_width-width, width_most c.args.edition)

pub returns : goal.returns
returns c =
    bit_floor (place (goal.at.returns c).After-task_width-width) c.if-count-i.false (within (goal.at.returns c).After-task_width-width) c.if-r-lt44.false c.bit_of-2.ensures
