-- What d ticks make of a state, step by step, and what moving its block on finds.
-- Assumes nothing.
use Prim.Native.Nat.{ℕ, ◌+◌, ◌-◌, ◌%◌, ◌<◌, ◌≤◌}
use mathlib.Core.Path.{◌≡◌, refl, sym, ap, ap₂, subst, ◌∙◌}
use mathlib.Core.Bool.{Bool, true, false, false≢true}
use mathlib.Core.List.{List}
use native.Mathlib.Omega.{arith}
use borrow.Author.Tests.{eq-eqb}
use lib.Dec.{eqb}
use lib.ListN.{length, get_or}
use Rattle.arith.specs.Choice.{pick}
use Rattle.arith.specs.Sum.{sum_to}
use Rattle.arith.proofs.Tests.{passed, failed, tested}
use Rattle.arith.proofs.Sums.{sum_to_eq, sum_to_most}
use Rattle.plan.specs.declared.Task.{Task}
use Rattle.plan.specs.Times.{whole, no_rest, worn, task_time}
use Rattle.plan.specs.Levels.{Rising, speed_of}
use Rattle.levels.specs.Code.{loaded, Table}
use Rattle.levels.proofs.Tables.{levels_are, speed_is, speed_positive, speed_most}
use Rattle.plan.specs.Blocks.{no_task}
use Rattle.schedule.specs.PlainSchedule.{Timing}
use Rattle.reclaiming.specs.declared.Entry.{Entry}
use Rattle.orders.specs.declared.Choice.{Choice}
use Rattle.reclaiming.specs.Allotments.{timing}
use Rattle.reclaiming.specs.Orders.{next_arrival}
use Rattle.reclaiming.specs.Passes.{arrives_at}
use Rattle.reclaiming.specs.StateBlock.{State, no_entry, queued_in, task_of, entry_with, remaining_of, rest_in, rest_of, plan_in, encode, total_in, decode, clock_field, state_count, places}
use Rattle.reclaiming.specs.States.{new_entry, state_with, drained_of, worked_of, clock_after, aged_entry, entry_after, moved_state}
use Rattle.reclaiming.specs.Questions.{state_sound}
use Rattle.arith.specs.Ranges.{list_to}
use Rattle.state.specs.Code.{entry_in, timing_in, with_jobs, with_clock, with_total, head_stored, total_stored, queued_to, FitTask, FitRest}
use Rattle.urgency.specs.Code.{no_key, Keyed, due_at, drained_by}
use Rattle.orders.specs.Code.{choice_of, Runnable}
use Rattle.ticks.specs.Arriving.{Allots, arrived_state}
use Rattle.ticks.specs.Code.{Stepping}
use Rattle.ticks.proofs.draining.DrainLaws.{Drains}
use Rattle.ticks.proofs.draining.WorkLaws.{Works}
use Rattle.ticks.proofs.arriving.ArriveLaws.{Arrives}
use Rattle.schedule.proofs.Totals.{drained_total}
use Rattle.reclaiming.proofs.Fine.{nominal_speed}
use Rattle.reclaiming.proofs.Plans.{allotment_short}
use Rattle.reclaiming.proofs.Worked.{drained_less}
use Rattle.reclaiming.proofs.Soundness.{plan_in_at, length-plan_in, queued_places, sound_state}
use Rattle.arith.proofs.RangeLaws.{length-list_to, list_to_same}
use Rattle.state.proofs.BlockLaws.{count_in_lem, remaining_in, encode_task, encode_remaining, queued_encode, jobs_count, jobs_entry, jobs_rest, jobs_remaining, store_clock, store_total}
use Rattle.urgency.proofs.OpenJobs.{timing_count}
use Rattle.urgency.proofs.KeyLaws.{key_below, key_task, due_is, due_none, drained_is}
use Rattle.soundness.proofs.SoundFacts.{sound_plan, sound_facts, entries_few, nominal_small, remaining_most, runnable, sound_back, ticks_short, task_fits, rest_fits}

-- the steps of a state through d ticks: ticks are taken from its queue, work is done, the clock moves, jobs arrive
module _ (speeds : List ℕ) (s : State) (keys : List ℕ) (count d : ℕ) (finished : Bool) where
  abbrev drained : State
  drained = with_jobs s (rest_of s) (drained_by keys (remaining_of s) count d)

  abbrev worked : State
  worked = with_jobs drained (worked_of speeds drained d finished) (remaining_of drained)

  abbrev timed : State
  timed = with_clock worked (clock_after s d)

  module _ (all : length s.entries ≡ count) where
    drained_count : length drained.entries ≡ count
    drained_count = jobs_count s (rest_of s) (drained_by keys (remaining_of s) count d) ∙ all

    timed_count : length timed.entries ≡ count
    timed_count = jobs_count drained (worked_of speeds drained d finished) (remaining_of drained) ∙ drained_count

    module _ (i : ℕ) (h : i < length s.entries) where
      drained_within : i < length drained.entries
      drained_within = omega (arith, drained_count)

      -- the entry of a task before jobs arrive
      abbrev aged : ℕ → Entry
      aged left = entry_with (task_of (get_or s.entries i no_entry)) (worked_of speeds s d finished i) left

      timed_entry : get_or timed.entries i no_entry ≡ aged (drained_by keys (remaining_of s) count d i)
      timed_entry =
          jobs_entry drained (worked_of speeds drained d finished) (remaining_of drained) i drained_within
          ∙ ap (λ (x : Entry). entry_with (task_of x) (pick (eqb i s.task) (pick finished no_rest (worn (speed_of speeds s.level) d (rest_in x))) (rest_in x)) x.remaining)
          (jobs_entry s (rest_of s) (drained_by keys (remaining_of s) count d) i h)

      timed_task : task_of (get_or timed.entries i no_entry) ≡ task_of (get_or s.entries i no_entry)
      timed_task = ap task_of timed_entry

      drained_rest : rest_of drained i ≡ rest_of s i
      drained_rest = jobs_rest s (rest_of s) (drained_by keys (remaining_of s) count d) i h

-- and in the end it is the moved state
module _ (speeds : List ℕ) (s : State) (keys : List ℕ) (keyed : Keyed (timing speeds (plan_in s)) s.clock keys) (d : ℕ) (some : 1 ≤ d)
    (within : d ≤ next_arrival (timing speeds (plan_in s)) s.clock) (finished : Bool) (speed : ℕ) (fast : speed ≡ nominal_speed speeds (plan_in s))
    (count : ℕ) (all : length s.entries ≡ count) where
  abbrev τ : Timing
  τ = timing speeds (plan_in s)

  abbrev before : State
  before = timed speeds s keys count d finished

  -- an entry, with a new job where one is due
  abbrev renewed_if : Bool → Entry → Entry
  renewed_if b e = entry_with (task_of e) (pick b (whole (task_of e)) (rest_in e)) (pick b (task_time speed (task_of e)) e.remaining)

  module _ (i : ℕ) (h : i < length s.entries) where
    within_count : i < τ.count
    within_count = omega (arith, length-plan_in s)

    task_same : task_of (get_or s.entries i no_entry) ≡ get_or (plan_in s) i no_task
    task_same = sym (plan_in_at s i)

    drained_same : drained_by keys (remaining_of s) count d i ≡ drained_of τ s d i
    drained_same =
        ap (λ (n : ℕ). drained_by keys (remaining_of s) n d i) (sym all ∙ sym (length-plan_in s))
        ∙ drained_is τ s keys keyed d i within_count

    renewed_is :
        (b : Bool) →
        renewed_if b (aged speeds s keys count d finished all i h (drained_of τ s d i)) ≡ pick b (new_entry τ (plan_in s) i) (aged_entry speeds τ s d finished i)
    renewed_is true = λ k. entry_with (task_same k) (whole (task_same k)) (task_time (fast k) (task_same k))
    renewed_is false = refl

    entry_moved : renewed_if (due_at keys (s.clock + d) i) (get_or before.entries i no_entry) ≡ entry_after speeds τ s d finished i
    entry_moved =
        ap₂ renewed_if (due_is τ s.clock keys keyed d some within i within_count)
        (timed_entry speeds s keys count d finished all i h ∙ ap (aged speeds s keys count d finished all i h) drained_same)
        ∙ renewed_is (arrives_at τ (s.clock + d) i)

  -- once its total is what its entries come to
  arrived_moved :
      with_total (arrived_state keys (s.clock + d) speed before) (queued_in (arrived_state keys (s.clock + d) speed before).entries)
      ≡ moved_state speeds τ s d finished
  arrived_moved =
      let n : length before.entries ≡ τ.count = timed_count speeds s keys count d finished all ∙ sym all ∙ sym (length-plan_in s) in
      let e : list_to (length before.entries) (λ i. renewed_if (due_at keys (s.clock + d) i) (get_or before.entries i no_entry))
      ≡ list_to τ.count (entry_after speeds τ s d finished) =
      ap (λ (k : ℕ). list_to k (λ i. renewed_if (due_at keys (s.clock + d) i) (get_or before.entries i no_entry))) n
      ∙ list_to_same τ.count (λ i. renewed_if (due_at keys (s.clock + d) i) (get_or before.entries i no_entry)) (entry_after speeds τ s d finished)
      (λ i h. entry_moved i (omega (arith, length-plan_in s))) in
      λ k. state_with (s.clock + d) s.task s.level (e k) s.speeds

-- what is known where a block is moved on: the order that stands, and the count of the tasks
pub record Moving (held : List ℕ) (levels : ℕ) (bytes keys : List ℕ) (highest d : ℕ) (c : Choice) (count : ℕ) : Type 0 where
  pub table : Table held levels
  pub step : Stepping (loaded held levels) bytes keys highest d
  pub order : c ≡ choice_of (loaded held levels) (decode bytes)
  pub same : count ≡ state_count bytes

module _ {held : List ℕ} {levels : ℕ} {bytes keys : List ℕ} {highest d : ℕ} {c : Choice} {count : ℕ} (k : Moving held levels bytes keys highest d c count) where
  abbrev speeds : List ℕ
  speeds = loaded held levels

  ok : state_sound (loaded held levels) (decode bytes) ≡ true
  ok = sound_state speeds bytes k.step.good.sound

  keyed : Keyed (timing_in (loaded held levels) bytes) (decode bytes).clock keys
  keyed = k.step.good.keyed

  pub highest_small : highest < levels
  highest_small = omega (arith, nominal_small speeds k.table.rising (decode bytes) ok, k.step.good.nominal, levels_are k.table)

  pub moving_short : d ≤ 65535
  moving_short = ticks_short speeds k.table.rising (decode bytes) ok d k.step.within

  pub moving_few : count ≤ places
  moving_few = omega (arith, k.same, k.step.good.holds.few)

  pub order_task : c.task ≡ (decode bytes).task
  order_task = ap (λ (x : Choice). x.task) k.order

  pub order_level : c.level ≡ (decode bytes).level
  order_level = ap (λ (x : Choice). x.level) k.order

  pub order_form : (c.task ≡ 255 → ⊥) → (c.task < places) × (c.level < levels)
  order_form ne =
      let r : Runnable (length speeds) (decode bytes) = runnable speeds k.table.rising (decode bytes) ok in
      let some : (decode bytes).task ≡ 255 → ⊥ = λ e. ne (order_task ∙ e) in (
        omega (arith, r.task some, order_task, entries_few speeds k.table.rising (decode bytes) ok),
        omega (arith, r.level some, order_level, levels_are k.table),
      )

  pub speed_range : (0 < get_or held highest 0) × (get_or held highest 0 ≤ 1000)
  speed_range = (speed_positive k.table highest highest_small, speed_most k.table highest highest_small)

  task_within : (i : ℕ) → i < count → i < (timing_in (loaded held levels) bytes).count
  task_within i h = omega (arith, k.same, timing_count bytes)

  pub moving_keys : (i : ℕ) → i < count → (get_or keys i 0 % 16 ≡ i) × (get_or keys i 0 < no_key)
  moving_keys i h = (
    key_task (timing_in speeds bytes) (decode bytes).clock keys keyed i (task_within i h),
    key_below (timing_in speeds bytes) (decode bytes).clock keys keyed i (task_within i h),
  )

-- and its clock after d ticks, and the nominal speed
pub record Prepared (held : List ℕ) (levels : ℕ) (bytes keys : List ℕ) (highest d : ℕ) (c : Choice) (count clock : ℕ) : Type 0 where
  pub moving : Moving held levels bytes keys highest d c count
  pub clock_is : clock ≡ (decode bytes).clock + d

-- where the next arrival is not reached, no deadline is
pub moving_none :
    {held : List ℕ} {levels : ℕ} {bytes keys : List ℕ} {highest d : ℕ} {c : Choice} {count clock : ℕ} →
    Prepared held levels bytes keys highest d c count clock →
    (next : ℕ) →
    next ≡ next_arrival (timing_in (loaded held levels) bytes) (decode bytes).clock →
    eqb d next ≡ false →
    (i : ℕ) →
    i < count →
    due_at keys clock i ≡ false
moving_none {held} {levels} {bytes} {keys} {highest} {d} k next a f i h =
    let s : Stepping (loaded held levels) bytes keys highest d = k.moving.step in
    let ne : d ≡ next → ⊥ = λ e. false≢true (sym f ∙ eq-eqb d next e) in
    ap (λ (x : ℕ). due_at keys x i) k.clock_is
    ∙ due_none (timing_in (loaded held levels) bytes) (decode bytes).clock keys s.good.keyed d s.some s.within (omega (arith, a, s.within, ne)) i
    (task_within k.moving i h)

-- the block after each step up to the arrivals: ticks are taken, work is done, the clock is stored; and what the ticks leave of the total
pub record Clocked (held : List ℕ) (levels : ℕ) (bytes keys : List ℕ) (highest d : ℕ) (c : Choice) (count clock : ℕ) (finished : Bool) (b1 b2 b3 : List ℕ) (left : ℕ) : Type 0 where
  pub prepared : Prepared held levels bytes keys highest d c count clock
  pub drains : Drains keys count d bytes b1
  pub works : Works (loaded held levels) b1 c d finished b2
  pub clocks : b3 ≡ head_stored b2 clock_field clock
  pub lowered : left ≡ total_in bytes - d

module _ {held : List ℕ} {levels : ℕ} {bytes keys : List ℕ} {highest d : ℕ} {c : Choice} {count clock : ℕ} {finished : Bool} {b1 b2 b3 : List ℕ} {left : ℕ}
    (k : Clocked held levels bytes keys highest d c count clock finished b1 b2 b3 left) where
  abbrev table_speeds : List ℕ
  table_speeds = loaded held levels

  abbrev start : State
  start = decode bytes

  moving : Moving held levels bytes keys highest d c count
  moving = k.prepared.moving

  rising : Rising (loaded held levels)
  rising = moving.table.rising

  all : length start.entries ≡ count
  all = count_in_lem bytes ∙ sym moving.same

  after_drain : b1 ≡ encode (drained table_speeds start keys count d finished)
  after_drain =
      k.drains start (sym (sound_back table_speeds rising bytes moving.step.good.sound)) all
      (λ i h. remaining_most table_speeds rising start (ok moving) i (omega (arith, all)))

  running_fits :
      (start.task ≡ 255 → ⊥) →
      (start.task < length (drained table_speeds start keys count d finished).entries)
      × FitRest (rest_of (drained table_speeds start keys count d finished) start.task)
  running_fits ne =
      let h : start.task < length start.entries = (runnable table_speeds rising start (ok moving)).task ne in (
        omega (arith, drained_count table_speeds start keys count d finished all, all),
        subst FitRest (sym (drained_rest table_speeds start keys count d finished all start.task h)) (rest_fits table_speeds rising start (ok moving) start.task h),
      )

  after_work : b2 ≡ encode (worked table_speeds start keys count d finished)
  after_work =
      k.works (drained table_speeds start keys count d finished) after_drain (order_task moving) (order_level moving)
      (omega (arith, drained_count table_speeds start keys count d finished all, moving_few moving)) running_fits

  after_clock : b3 ≡ encode (timed table_speeds start keys count d finished)
  after_clock =
      k.clocks
      ∙ ap₂ (λ (l : List ℕ) (x : ℕ). head_stored l clock_field x) after_work k.prepared.clock_is
      ∙ store_clock (worked table_speeds start keys count d finished) (start.clock + d)

  -- the state there, and what its entries have
  abbrev there : State
  there = timed table_speeds start keys count d finished

  in_start : (i : ℕ) → i < count → i < length start.entries
  in_start i h = omega (arith, all)

  there_count : length there.entries ≡ count
  there_count = timed_count table_speeds start keys count d finished all

  there_task : (i : ℕ) → i < count → task_of (get_or there.entries i no_entry) ≡ task_of (get_or start.entries i no_entry)
  there_task i h = timed_task table_speeds start keys count d finished all i (in_start i h)

  few_speeds : length table_speeds ≤ 16
  few_speeds = omega (arith, moving.table.few, levels_are moving.table)

  there_fits : (i : ℕ) → i < count → FitTask (task_of (get_or there.entries i no_entry))
  there_fits i h = subst FitTask (sym (there_task i h)) (task_fits table_speeds rising start (ok moving) i (in_start i h) few_speeds)

  speed_nominal : get_or held highest 0 ≡ nominal_speed table_speeds (plan_in start)
  speed_nominal = speed_is moving.table highest (highest_small moving) ∙ ap (speed_of table_speeds) moving.step.good.nominal

  allotted : (i : ℕ) → i < count → task_time (get_or held highest 0) (task_of (get_or there.entries i no_entry)) ≤ 65535
  allotted i h =
      let same : get_or (plan_in start) i no_task ≡ task_of (get_or there.entries i no_entry) = plan_in_at start i ∙ sym (there_task i h) in
      subst (λ (t : Task). task_time (get_or held highest 0) t ≤ 65535) same
      (subst (λ (v : ℕ). task_time v (get_or (plan_in start) i no_task) ≤ 65535) (sym speed_nominal)
      (allotment_short table_speeds (plan_in start) (sound_plan table_speeds rising start (ok moving)) rising i (omega (arith, length-plan_in start, all))))

  -- the allotments fit
  pub clocked_allots : Allots b3 count (get_or held highest 0)
  clocked_allots i h =
      subst (λ (t : Task). task_time (get_or held highest 0) t ≤ 65535)
      (sym (ap (λ (l : List ℕ). task_of (entry_in l i)) after_clock ∙ encode_task there i (omega (arith, there_count)) (there_fits i h)))
      (allotted i h)

  there_left : (i : ℕ) → i < count → remaining_of there i ≡ drained_of (timing_in table_speeds bytes) start d i
  there_left i h =
      ap (λ (e : Entry). e.remaining) (timed_entry table_speeds start keys count d finished all i (in_start i h))
      ∙ drained_same table_speeds start keys (keyed moving) d moving.step.some moving.step.within finished (get_or held highest 0) speed_nominal count all i
      (in_start i h)

  there_short : (i : ℕ) → i < count → remaining_of there i ≤ 65535
  there_short i h =
      omega (
        arith,
        there_left i h,
        drained_less (timing_in table_speeds bytes) start d i (task_within moving i h),
        remaining_most table_speeds rising start (ok moving) i (in_start i h),
      )

  -- and what they come to is what the ticks left of the total
  start_total : start.total ≡ sum_to count (remaining_of start)
  start_total = (sound_facts table_speeds rising start (ok moving)).entries.total ∙ queued_places start all

  pub clocked_total : left ≡ queued_to b3 count
  clocked_total =
      let τ : Timing = timing_in table_speeds bytes in
      let n : τ.count ≡ count = length-plan_in start ∙ all in
      k.lowered
      ∙ ap (λ (x : ℕ). x - d) start_total
      ∙ sym (ap (λ (m : ℕ). sum_to m (remaining_of start) - d) n)
      ∙ sym (drained_total τ start.clock (remaining_of start) τ.count d)
      ∙ ap (λ (m : ℕ). sum_to m (drained_of τ start d)) n
      ∙ sum_to_eq count (drained_of τ start d) (remaining_in b3)
      (λ i h.
      sym
      (ap (λ (l : List ℕ). (entry_in l i).remaining) after_clock
      ∙ encode_remaining there i (omega (arith, there_count)) (there_short i h)
      ∙ there_left i h))

  pub clocked_small : left ≤ 1048560
  clocked_small =
      omega (
        arith,
        k.lowered,
        start_total,
        sum_to_most count (remaining_of start) 65535 (λ i h. remaining_most table_speeds rising start (ok moving) i (in_start i h)),
        moving_few moving,
      )

-- and past them: jobs arrive, and the total that they make is stored
pub record Stepped (held : List ℕ) (levels : ℕ) (bytes keys : List ℕ) (highest d : ℕ) (c : Choice) (count clock : ℕ) (finished : Bool) (b1 b2 b3 b4 b5 : List ℕ) (left total : ℕ) : Type 0 where
  pub clocked : Clocked held levels bytes keys highest d c count clock finished b1 b2 b3 left
  pub arrives : Arrives keys count clock (get_or held highest 0) b3 b4
  pub totalled : total ≡ queued_to b4 count
  pub stored : b5 ≡ total_stored b4 total

module _ {held : List ℕ} {levels : ℕ} {bytes keys : List ℕ} {highest d : ℕ} {c : Choice} {count clock : ℕ} {finished : Bool} {b1 b2 b3 b4 b5 : List ℕ} {left total : ℕ}
    (k : Stepped held levels bytes keys highest d c count clock finished b1 b2 b3 b4 b5 left total) where
  abbrev arrived : State
  arrived = arrived_state keys ((decode bytes).clock + d) (get_or held highest 0) (there k.clocked)

  after_arrivals : b4 ≡ encode arrived
  after_arrivals =
      k.arrives (there k.clocked) (after_clock k.clocked) (there_count k.clocked) (there_fits k.clocked)
      ∙ ap (λ (x : ℕ). encode (arrived_state keys x (get_or held highest 0) (there k.clocked))) k.clocked.prepared.clock_is

  arrived_count : length arrived.entries ≡ count
  arrived_count = length-list_to (length (there k.clocked).entries) _ ∙ there_count k.clocked

  arrived_short : (i : ℕ) → i < count → remaining_of arrived i ≤ 65535
  arrived_short i h =
      let at : i < length (there k.clocked).entries = omega (arith, there_count k.clocked) in
      let new : ℕ = task_time (get_or held highest 0) (task_of (get_or (there k.clocked).entries i no_entry)) in
      subst (λ (x : ℕ). x ≤ 65535) (sym (jobs_remaining (there k.clocked) _ _ i at))
      (elim (tested (due_at keys ((decode bytes).clock + d) i)) as (λ b _. pick {A = ℕ} b new (remaining_of (there k.clocked) i) ≤ 65535)
      [ passed ↦ allotted k.clocked i h | failed ↦ there_short k.clocked i h ])

  total_is : total ≡ queued_in arrived.entries
  total_is = k.totalled ∙ ap (λ (l : List ℕ). queued_to l count) after_arrivals ∙ queued_encode arrived arrived_count arrived_short

  pub moved_on : b5 ≡ encode (moved_state (loaded held levels) (timing_in (loaded held levels) bytes) (decode bytes) d finished)
  moved_on =
      let m : Moving held levels bytes keys highest d c count = moving k.clocked in
      k.stored
      ∙ ap₂ total_stored after_arrivals total_is
      ∙ store_total arrived (queued_in arrived.entries) (omega (arith, arrived_count, moving_few m))
      ∙ ap encode
      (arrived_moved (loaded held levels) (decode bytes) keys (keyed m) d m.step.some m.step.within finished (get_or held highest 0)
      (speed_nominal k.clocked) count (all k.clocked))
