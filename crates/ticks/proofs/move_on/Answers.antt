use Prim.Native.Nat.{ℕ, ◌+◌, ◌-◌}
use mathlib.Core.Path.{ap, ◌∙◌}
use native.Mathlib.Omega.{arith}
use borrow.Author.Rules.{rules}
use Rattle.ticks.proofs.TickSteps.{Moving, Prepared, Clocked, Stepped, highest_small, moving_short, moving_few, moving_keys, moving_none, order_form, speed_range}
use Rattle.ticks.proofs.TickSteps.{clocked_allots, clocked_total, clocked_small, moved_on}
use Rattle.ticks.proofs.move_on.Goals.{After-count_at-count, After-put_number, After-put_total}
use Rattle.ticks.proofs.move_on.Goals as goal

moving : (c : After-count_at-count) → Moving c.args.table.now.speeds c.args.table.now.levels c.args.block.now c.args.keys.now c.args.highest c.args.d c.args.c c.count_at-count.result
moving c = record { table = c.args.table.now.known; step = c.requires.step; order = c.requires.c_value; same = c.count_at-count.ensures }

prepared :
    (c : After-put_number) →
    Prepared c.args.table.now.speeds c.args.table.now.levels c.args.block.now c.args.keys.now c.args.highest c.args.d c.args.c
    c.count_at-count.result c.after-clock.result.ticks
prepared c = record {
  moving = record { table = c.args.table.now.known; step = c.requires.step; order = c.requires.c_value; same = c.count_at-count.ensures };
  clock_is = c.after-clock.ensures ∙ ap (λ (x : ℕ). x + c.args.d) (c.new.ensures ∙ c.clock_at.ensures);
}

-- the block before the arrivals, and what is left of the total
clocked :
    (c : After-put_number) →
    Clocked c.args.table.now.speeds c.args.table.now.levels c.args.block.now c.args.keys.now c.args.highest c.args.d c.args.c
    c.count_at-count.result c.after-clock.result.ticks c.args.finished
    c.drain.new.block c.work_off.new.block c.put_number.new.s c.left_of-left.result
clocked c = record {
  prepared = prepared c;
  drains = c.drain.ensures;
  works = c.work_off.ensures;
  clocks = c.put_number.ensures;
  lowered = c.left_of-left.ensures ∙ ap (λ (x : ℕ). x - c.args.d) c.total_at.ensures;
}

pub offset_bounds-table-highest : goal.offset_bounds-table-highest
offset_bounds-table-highest c =
    let k = moving (goal.at.offset_bounds-table-highest c).After-count_at-count in
    omega (arith, highest_small k, k.table.few)

pub bounds-table-highest : goal.bounds-table-highest
bounds-table-highest c =
    let k = moving (goal.at.bounds-table-highest c).After-count_at-count in
    omega (arith, highest_small k, k.table.few)

pub drain-requires-clause-by_index : goal.drain-requires-clause-by_index
drain-requires-clause-by_index c = moving_keys (moving (goal.at.drain-requires-clause-by_index c).After-count_at-count)

pub work_off-requires-clause-few_ticks : goal.work_off-requires-clause-few_ticks
work_off-requires-clause-few_ticks c =
    let k = moving (goal.at.work_off-requires-clause-few_ticks c).After-count_at-count in (search rules, moving_short k)

pub work_off-requires-clause-task_lt_places : goal.work_off-requires-clause-task_lt_places
work_off-requires-clause-task_lt_places c = order_form (moving (goal.at.work_off-requires-clause-task_lt_places c).After-count_at-count)

pub arrive_if-total-requires-clause-count_le_places : goal.arrive_if-total-requires-clause-count_le_places
arrive_if-total-requires-clause-count_le_places c =
    let k = moving (goal.at.arrive_if-total-requires-clause-count_le_places c).After-count_at-count in
    (moving_few k, search rules, (speed_range k).0, (speed_range k).1)

pub arrive_if-total-requires-clause-by_index : goal.arrive_if-total-requires-clause-by_index
arrive_if-total-requires-clause-by_index c =
    let k = moving (goal.at.arrive_if-total-requires-clause-by_index c).After-count_at-count in (
      λ i h. (moving_keys k i h).1,
      moving_none (prepared (goal.at.arrive_if-total-requires-clause-by_index c).After-put_number) _ c.requires.next_value,
    )

pub arrive_if-total-requires-clause-allots : goal.arrive_if-total-requires-clause-allots
arrive_if-total-requires-clause-allots c =
    let k = clocked (goal.at.arrive_if-total-requires-clause-allots c).After-put_number in
    (clocked_allots k, clocked_total k, clocked_small k)

-- and after them
stepped :
    (c : After-put_total) →
    Clocked c.args.table.now.speeds c.args.table.now.levels c.args.block.now c.args.keys.now c.args.highest c.args.d c.args.c
    c.count_at-count.result c.after-clock.result.ticks c.args.finished
    c.drain.new.block c.work_off.new.block c.put_number.new.s c.left_of-left.result →
    Stepped c.args.table.now.speeds c.args.table.now.levels c.args.block.now c.args.keys.now c.args.highest c.args.d c.args.c
    c.count_at-count.result c.after-clock.result.ticks c.args.finished
    c.drain.new.block c.work_off.new.block c.put_number.new.s c.arrive_if-total.new.block c.put_total.new.block
    c.left_of-left.result c.arrive_if-total.result
stepped c k = record { clocked = k; arrives = c.arrive_if-total.ensures.block_after; totalled = c.arrive_if-total.ensures.value; stored = c.put_total.ensures }

pub returns : goal.returns
returns c = moved_on (stepped (goal.at.returns c).After-put_total (clocked (goal.at.returns c).After-put_number))
