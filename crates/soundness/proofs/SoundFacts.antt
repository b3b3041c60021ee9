-- What a sound state has, and what a sound block has.
-- Assumes nothing.
use Prim.Native.Nat.{ℕ, ◌-◌, ◌%◌, ◌<◌, ◌≤◌}
use mathlib.Core.Path.{◌≡◌, subst}
use mathlib.Core.Bool.{true}
use mathlib.Core.List.{List}
use native.Mathlib.Omega.{arith}
use lib.ListN.{length, get_or}
use Rattle.arith.specs.Choice.{both}
use Rattle.arith.proofs.Tests.{both_left}
use Rattle.plan.specs.declared.Task.{Task}
use Rattle.plan.specs.Levels.{Rising, nominal}
use Rattle.arith.specs.Asking.{first_no}
use Rattle.plan.specs.Questions.{task_questions}
use Rattle.plan.proofs.Facts.{FineTasks, FineList, InRange, floor_at, tasks_yes}
use Rattle.plan.specs.Times.{whole, Within}
use Rattle.state.specs.Code.{Holds, FitTask, FitRest}
use Rattle.schedule.specs.PlainSchedule.{Timing}
use Rattle.reclaiming.specs.Allotments.{timing}
use Rattle.reclaiming.specs.Orders.{next_arrival}
use Rattle.reclaiming.specs.Passes.{in_time}
use Rattle.reclaiming.specs.StateBlock.{State, no_entry, task_of, floor_of, remaining_of, rest_of, plan_in, encode, decode, laid_out, state_length, state_count, places}
use Rattle.reclaiming.specs.Questions.{sound_at, state_sound}
use Rattle.orders.specs.Code.{Runnable}
use Rattle.reclaiming.proofs.Fine.{Fine}
use Rattle.reclaiming.proofs.Plans.{task_range, allotment_short}
use Rattle.reclaiming.proofs.StateCodec.{laid_length, laid_back}
use Rattle.reclaiming.proofs.Soundness.{plan_in_at, length-plan_in, sound_fine, sound_state}
use Rattle.arith.proofs.RangeLaws.{least_le}
use Rattle.reclaiming.proofs.OrderFacts.{Ordered, idles, runs}
use Rattle.reclaiming.proofs.Worked.{ordered}
use Rattle.state.proofs.BlockLaws.{count_in_lem}

-- the floor of a state's task is one of the levels
pub floor_most : (speeds : List ℕ) (s : State) → FineTasks speeds (plan_in s) → (i : ℕ) → i < length (plan_in s) → floor_of s i < length speeds
floor_most speeds s plan i h =
    subst (λ (t : Task). t.floor < length speeds) (plan_in_at s i) (floor_at (length speeds) (plan_in s) i plan.floors h)

-- an order that stands is to stay idle, or runs one of the tasks at one of the levels
pub ordered_runnable :
    (speeds : List ℕ) (s : State) →
    FineTasks speeds (plan_in s) →
    Ordered speeds (timing speeds (plan_in s)) (nominal speeds (plan_in s)) s →
    Runnable (length speeds) s
ordered_runnable speeds s plan (idles t x z) = record { task = λ ne. absurd (ne t); level = λ ne. absurd (ne t) }
ordered_runnable speeds s plan (runs r) = record {
  task = λ ne. omega (arith, r.below, length-plan_in s);
  level = λ ne. omega (arith, r.level, plan.admitted, floor_most speeds s plan s.task r.below);
}

-- what a sound state has
module _ (speeds : List ℕ) (rising : Rising speeds) (s : State) (ok : state_sound speeds s ≡ true) where
  pub sound_plan : FineList speeds (length (plan_in s)) (plan_in s)
  sound_plan = (sound_fine speeds s ok).0

  pub sound_facts : Fine speeds (plan_in s) s
  sound_facts = (sound_fine speeds s ok).1

  pub entries_few : length s.entries ≤ places
  entries_few = omega (arith, sound_plan.count_high, length-plan_in s)

  entries_some : 1 ≤ length s.entries
  entries_some = omega (arith, sound_plan.count_low, length-plan_in s)

  pub nominal_small : nominal speeds (plan_in s) < length speeds
  nominal_small = sound_plan.tasks.admitted

  pub runnable : Runnable (length speeds) s
  runnable = ordered_runnable speeds s sound_plan.tasks (ordered speeds (plan_in s) s sound_facts)

  -- its numbers are in range
  module _ (i : ℕ) (h : i < length s.entries) where
    within_plan : i < length (plan_in s)
    within_plan = omega (arith, length-plan_in s)

    range_of : InRange (task_of (get_or s.entries i no_entry))
    range_of =
        subst (λ (t : Task). InRange t) (plan_in_at s i) (task_range speeds (plan_in s) sound_plan rising i within_plan)

    pub task_fits : length speeds ≤ 16 → FitTask (task_of (get_or s.entries i no_entry))
    task_fits few = record {
      period = range_of.period_high;
      worst = range_of.worst_high;
      fixed = range_of.fixed_high;
      floor = omega (arith, few, floor_most speeds s sound_plan.tasks i within_plan);
    }

    pub rest_fits : FitRest (rest_of s i)
    rest_fits =
        let left : Within (rest_of s i) (whole (task_of (get_or s.entries i no_entry))) =
        subst (λ (t : Task). Within (rest_of s i) (whole t)) (plan_in_at s i) (sound_facts.entries.left i within_plan) in
        record { fixed = omega (arith, left.fixed, range_of.fixed_high); work = omega (arith, left.work, range_of.worst_high) }

    pub remaining_most : remaining_of s i ≤ 65535
    remaining_most =
        omega (arith, sound_facts.entries.remaining i within_plan, allotment_short speeds (plan_in s) sound_plan rising i within_plan)

    pub period_some : 0 < (timing speeds (plan_in s)).period i
    period_some = (task_range speeds (plan_in s) sound_plan rising i within_plan).period_low

  -- ticks up to the next arrival are at most a period
  pub ticks_short : (d : ℕ) → d ≤ next_arrival (timing speeds (plan_in s)) s.clock → d ≤ 65535
  ticks_short d h =
      let τ : Timing = timing speeds (plan_in s) in
      omega (
        arith,
        least_le τ.count (λ j. τ.period j - s.clock % τ.period j) 0 sound_plan.count_low,
        (task_range speeds (plan_in s) sound_plan rising 0 sound_plan.count_low).period_high,
      )

-- what a sound block has
module _ (speeds : List ℕ) (rising : Rising speeds) (bytes : List ℕ) (ok : sound_at speeds bytes ≡ true) where
  laid : laid_out bytes ≡ true
  laid = both_left (laid_out bytes) (both (in_time (decode bytes).clock) (state_sound speeds (decode bytes))) ok

  pub sound_size : length bytes ≡ state_length
  sound_size = laid_length bytes laid

  pub sound_back : encode (decode bytes) ≡ bytes
  sound_back = laid_back bytes laid

  pub count_some : 1 ≤ state_count bytes
  count_some = omega (arith, entries_some speeds rising (decode bytes) (sound_state speeds bytes ok), count_in_lem bytes)

  pub sound_holds : Holds bytes
  sound_holds =
      record { size = sound_size; few = omega (arith, entries_few speeds rising (decode bytes) (sound_state speeds bytes ok), count_in_lem bytes) }

  pub sound_plan_yes : first_no (task_questions speeds (plan_in (decode bytes))) ≡ 0
  sound_plan_yes = tasks_yes speeds (plan_in (decode bytes)) (sound_plan speeds rising (decode bytes) (sound_state speeds bytes ok)).tasks
