use mathlib.Core.Path.{◌≡◌}
use native.Mathlib.Omega.{arith}
use borrow.Author.Rules.{rules}
use lib.ListN.{length}
use Rattle.arith.proofs.Loops.{length_mapped}
use Rattle.levels.specs.Code.{loaded}
use Rattle.plan.proofs.Held.{floor_below, task_at_lem}
use Rattle.starting.proofs.image.MakingLaws.{making_none, ticks_small, making_more, making_all}
use Rattle.starting.proofs.image.fresh.Goals.{Start}
use Rattle.starting.proofs.image.fresh.Goals as goal

size : (c : Start) → length c.args.p.tasks ≡ 16
size c = search (length_mapped, rules)

pub blank-image-requires : goal.blank-image-requires
blank-image-requires c = (c.requires.count_le_places.0, c.requires.levels_bound.0, c.requires.levels_bound.1)

pub loop-i-init : goal.loop-i-init
loop-i-init c =
    making_none (loaded c.args.speeds.now c.args.levels) c.args.speed
    (record { held = record { places = size (goal.at.loop-i-init c).Start; most = c.requires.count_le_places.0 }; ranges = c.requires.count_le_places.1 })
    c.blank-image.ensures

pub offset_bounds-p-i : goal.offset_bounds-p-i
offset_bounds-p-i c = omega (arith, c.loop-i.invariant.plan.held.most)

pub bounds-p-i : goal.bounds-p-i
bounds-p-i c = omega (arith, c.loop-i.invariant.plan.held.most)

pub task_time-remaining-requires : goal.task_time-remaining-requires
task_time-remaining-requires c =
    let range = task_at_lem c.loop-i.invariant.plan c.loop-i.i c.loop-i-test.true in
    (c.requires.speed_nonzero.0, c.requires.speed_nonzero.1, omega (arith, range.fixed_high), omega (arith, range.worst_high))

pub put_entry-requires : goal.put_entry-requires
put_entry-requires c =
    let plan = c.loop-i.invariant.plan in
    let i = c.loop-i.i in (
      omega (arith, plan.held.most),
      c.loop-i.invariant.size,
      omega (arith, c.requires.levels_bound.0, floor_below plan.held c.args.levels c.requires.count_le_places.2 i c.loop-i-test.true),
      (task_at_lem plan i c.loop-i-test.true).worst_high,
    )

pub overflow_add-total : goal.overflow_add-total
overflow_add-total c =
    let now = c.loop-i.invariant in
    omega (arith, now.small, now.plan.held.most, ticks_small now c.loop-i-test.true c.requires.speed_nonzero.0 c.task_time-remaining.ensures)

pub loop-i-preserved : goal.loop-i-preserved
loop-i-preserved c =
    making_more c.loop-i.invariant c.loop-i-test.true c.requires.speed_nonzero.0 c.whole_of-rest.ensures c.task_time-remaining.ensures c.put_entry.ensures

pub put_total-requires : goal.put_total-requires
put_total-requires c = c.loop-i.invariant.size

pub returns : goal.returns
returns c =
    making_all c.loop-i.invariant c.loop-i-test.false c.put_total.ensures
