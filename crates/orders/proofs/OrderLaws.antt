-- What the functions that choose an order find in a block is the order of the definitions.
-- Assumes nothing.
use Prim.Native.Nat.{ℕ, ◌+◌, ◌-◌, ◌<◌, ◌≤◌, min}
use mathlib.Core.Path.{◌≡◌, sym, ap, ap₂, subst, ◌∙◌}
use mathlib.Core.Bool.{Bool, true, false}
use mathlib.Core.List.{List}
use native.Mathlib.Numerals.{add-one}
use native.Mathlib.Omega.{arith}
use borrow.Author.Tests.{leb-true, leb-false, eq-eqb, ne_eqb}
use lib.Dec.{leb, eqb}
use lib.ListN.{length, get_or}
use Rattle.arith.specs.Choice.{pick}
use Rattle.arith.proofs.Tests.{passed, failed, tested}
use Rattle.plan.specs.declared.Rest.{Rest}
use Rattle.plan.specs.Times.{time_of}
use Rattle.plan.specs.Levels.{Rising, speed_of}
use Rattle.levels.specs.Code.{loaded, Table}
use Rattle.levels.proofs.Tables.{levels_are, speed_is}
use Rattle.schedule.specs.PlainSchedule.{Timing, Pending}
use Rattle.orders.specs.declared.Choice.{Choice}
use Rattle.reclaiming.specs.Orders.{next_arrival, allowance, lowest_level, running_time, hold_of, order_for}
use Rattle.reclaiming.specs.StateBlock.{State, floor_of, remaining_of, rest_in, rest_of, decode, state_count, places}
use Rattle.reclaiming.specs.States.{put_order, view_of, take_order}
use Rattle.arith.specs.Ranges.{least_to}
use Rattle.state.specs.Code.{Holds, entry_in, timing_in}
use Rattle.urgency.specs.Code.{Keyed, no_key, deadline_in}
use Rattle.orders.specs.Code.{choice_of, run_of, chosen_in, hold_by, Runnable, Enough}
use Rattle.reclaiming.proofs.Allowances.{allowance_is}
use Rattle.reclaiming.proofs.Lone.{allowance_least}
use Rattle.reclaiming.proofs.Lowest.{time_higher, lowest_le, lowest_above}
use Rattle.state.proofs.BlockLaws.{count_in_lem}
use Rattle.urgency.proofs.KeyLaws as keys
use Rattle.urgency.proofs.HeadLaws.{rest_is, Looked, none_open, Head, first_open, told_task, told_floor}
use Rattle.orders.proofs.lone.LoneLaws.{Read, read_below, read_rest, read_allowed}
use Rattle.urgency.proofs.OpenJobs.{timing_count}

-- a level is tried by its speed
pub record Tried (held : List ℕ) (levels : ℕ) (rest : Rest) (allowed floor level : ℕ) (found : Bool) : Type 0 where
  pub table : Table held levels
  pub above : floor ≤ level
  pub low : level < levels
  pub found_is : found ≡ leb (time_of (get_or held level 0) rest) allowed

module _ {held : List ℕ} {levels : ℕ} {rest : Rest} {allowed floor level : ℕ} {found : Bool} (k : Tried held levels rest allowed floor level found) where
  within : level < length (loaded held levels)
  within = omega (arith, k.low, levels_are k.table)

  told : leb (time_of (speed_of (loaded held levels) level) rest) allowed ≡ found
  told = ap (λ (x : ℕ). leb (time_of x rest) allowed) (sym (speed_is k.table level k.low)) ∙ sym k.found_is

  -- where the ticks are enough, or are not, it bounds the lowest level that will do
  abbrev time : ℕ
  time = time_of (speed_of (loaded held levels) level) rest

  pub level_high : found ≡ true → lowest_level (loaded held levels) floor rest allowed ≤ level
  level_high e = lowest_le (loaded held levels) floor rest allowed level k.above within (leb-true time allowed (told ∙ e))

  pub level_low : found ≡ false → level + 1 ≤ lowest_level (loaded held levels) floor rest allowed
  level_low e =
      rw add-one
      (lowest_above (loaded held levels) floor rest allowed k.table.rising (omega (arith, within, k.above)) level within
      (leb-false time allowed (told ∙ e)))

-- the hold, by each way out
module _ (c : Choice) (next : ℕ) where
  pub hold_idle : c.task ≡ 255 → next ≡ hold_by c next
  hold_idle e = simp (eq-eqb c.task 255 e)

  module _ (some : c.task ≡ 255 → ⊥) where
    pub hold_time : c.time < next → c.time ≡ hold_by c next
    hold_time lt = rw (ne_eqb c.task 255 some) (omega arith)

    pub hold_next : next ≤ c.time → next ≡ hold_by c next
    hold_next le = rw (ne_eqb c.task 255 some) (omega arith)

-- no job is open
pub chosen_none :
    {speeds b l : List ℕ} {count best : ℕ} →
    Looked speeds b l count best →
    best ≡ no_key →
    ◌≡◌ {A = Choice} (record { task = 255; level = 0; time = 0 }) (choice_of speeds (chosen_in speeds b))
chosen_none {speeds} {b} k e = ap (λ (q : List Pending). choice_of speeds (take_order (decode b) (order_for speeds (timing_in speeds b) (view_of (decode b)) q))) (sym (none_open k e))

-- one is: its floor is a level
pub read_loaded :
    {speeds b l : List ℕ} {count best i : ℕ} {rest : Rest} {next allowed floor highest : ℕ} →
    Read speeds b l count best i rest next allowed →
    floor ≡ (entry_in b i).floor →
    Enough speeds (decode b) highest →
    floor < length speeds
read_loaded {b = b} {i = i} k e enough =
    omega (arith, told_floor k.told e, enough.floors i (omega (arith, read_below k, timing_count b, count_in_lem b)))

-- a level at which every job can be done in its own ticks meets the allowance, of which they are a part
read_enough :
    {speeds b l : List ℕ} {count best i : ℕ} {rest : Rest} {next allowed highest : ℕ} →
    Read speeds b l count best i rest next allowed →
    Enough speeds (decode b) highest →
    time_of (speed_of speeds highest) rest ≤ allowed
read_enough {speeds} {b} {i = i} {highest = highest} k enough =
    let s : State = decode b in
    let τ : Timing = timing_in speeds b in
    let own : remaining_of s i ≤ allowance τ (view_of s) i =
    omega (arith, allowance_is τ s.clock (remaining_of s) τ.count i (read_below k), allowance_least τ s i) in
    let can : time_of (speed_of speeds highest) (rest_of s i) ≤ remaining_of s i = enough.each i (omega (arith, read_below k, timing_count b, count_in_lem b)) in
    omega (arith, read_allowed k, ap (time_of (speed_of speeds highest)) (read_rest k))

-- and so does a higher one
pub enough_higher :
    {speeds b l : List ℕ} {count best i : ℕ} {rest : Rest} {next allowed highest : ℕ} →
    Read speeds b l count best i rest next allowed →
    Rising speeds →
    Enough speeds (decode b) highest →
    (top : ℕ) →
    highest ≤ top →
    top < length speeds →
    time_of (speed_of speeds top) rest ≤ allowed
enough_higher {speeds} {rest = rest} {highest = highest} k rising enough top le h =
    omega (arith, read_enough k enough, time_higher speeds rising rest highest top le h)

-- and its level was found
pub record Picked (speeds b l : List ℕ) (count best i : ℕ) (rest : Rest) (next allowed floor level : ℕ) : Type 0 where
  pub read : Read speeds b l count best i rest next allowed
  pub floor_in : floor ≡ (entry_in b i).floor
  pub level_is : level ≡ lowest_level speeds floor rest allowed
  pub low : level < 8

module _ {speeds b l : List ℕ} {count best i : ℕ} {rest : Rest} {next allowed floor level : ℕ} (k : Picked speeds b l count best i rest next allowed floor level) where
  abbrev s : State
  s = decode b

  abbrev τ : Timing
  τ = timing_in speeds b

  abbrev lowest : ℕ
  lowest = lowest_level speeds (floor_of s i) (rest_of s i) (allowance τ (view_of s) i)

  level_lowest : level ≡ lowest
  level_lowest =
      k.level_is
      ∙ ap₂ (lowest_level speeds floor) (read_rest k.read) (read_allowed k.read)
      ∙ ap (λ (n : ℕ). lowest_level speeds n (rest_of s i) (allowance τ (view_of s) i)) (told_floor k.read.told k.floor_in)

  order_is : chosen_in speeds b ≡ put_order s i lowest
  order_is =
      let h : Head speeds b l best i = first_open k.read.told in
      ap (λ (q : List Pending). take_order s (order_for speeds τ (view_of s) q)) h.queue
      ∙ ap (λ (n : ℕ). put_order s n (lowest_level speeds (floor_of s n) (rest_of s n) (allowance τ (view_of s) n))) h.task

  pub chosen_small : {r : Choice} → r ≡ run_of speeds i level rest → (r.task < 256) × (r.level < 256)
  chosen_small e =
      subst (λ (x : Choice). (x.task < 256) × (x.level < 256)) (sym e) (omega (arith, told_task k.read.told), omega (arith, k.low))

  pub chosen_some : run_of speeds i level rest ≡ choice_of speeds (chosen_in speeds b)
  chosen_some =
      let t : time_of (speed_of speeds level) rest ≡ pick (eqb i 255) 0 (time_of (speed_of speeds lowest) (rest_of s i)) =
      ap₂ (λ (x : ℕ) (y : Rest). time_of (speed_of speeds x) y) level_lowest (read_rest k.read)
      ∙ ap (λ (z : Bool). pick {A = ℕ} z 0 (time_of (speed_of speeds lowest) (rest_of s i)))
      (sym (ne_eqb i 255 (λ e. omega (arith, told_task k.read.told)))) in
      let e : run_of speeds i level rest ≡ choice_of speeds (put_order s i lowest) = λ x. record { task = i; level = level_lowest x; time = t x } in
      e ∙ ap (choice_of speeds) (sym order_is)

-- the order that stands: to stay idle
pub standing_idle :
    (speeds b : List ℕ) → (decode b).task ≡ 255 → ◌≡◌ {A = Choice} (record { task = 255; level = (decode b).level; time = 0 }) (choice_of speeds (decode b))
standing_idle speeds b e =
    let t : 0 ≡ pick (eqb (decode b).task 255) 0 (running_time speeds (view_of (decode b))) =
    ap (λ (z : Bool). pick {A = ℕ} z 0 (running_time speeds (view_of (decode b)))) (sym (eq-eqb (decode b).task 255 e)) in
    λ x. record { task = sym e x; level = (decode b).level; time = t x }

-- or to run a task
pub record Runs (levels : ℕ) (b : List ℕ) : Type 0 where
  pub holds : Holds b
  pub runnable : Runnable levels (decode b)
  pub some : (decode b).task ≡ 255 → ⊥

module _ {levels : ℕ} {b : List ℕ} (k : Runs levels b) where
  standing_below : (decode b).task < state_count b
  standing_below = omega (arith, k.runnable.task k.some, count_in_lem b)

  pub standing_task : (decode b).task < places
  standing_task = omega (arith, standing_below, k.holds.few)

  pub standing_level : (decode b).level < levels
  standing_level = k.runnable.level k.some

  pub standing_run :
      (speeds : List ℕ) {rest : Rest} →
      rest ≡ rest_in (entry_in b (decode b).task) →
      run_of speeds (decode b).task (decode b).level rest ≡ choice_of speeds (decode b)
  standing_run speeds {rest} w =
      let t : time_of (speed_of speeds (decode b).level) rest ≡ pick (eqb (decode b).task 255) 0 (running_time speeds (view_of (decode b))) =
      ap (time_of (speed_of speeds (decode b).level)) (w ∙ sym (rest_is b (decode b).task standing_below))
      ∙ ap (λ (z : Bool). pick {A = ℕ} z 0 (running_time speeds (view_of (decode b)))) (sym (ne_eqb (decode b).task 255 k.some)) in
      λ x. record { task = (decode b).task; level = (decode b).level; time = t x }

-- the hold of a state's order, from the ticks to the next arrival
pub hold_is :
    (speeds : List ℕ) (τ : Timing) (s : State) (next : ℕ) → next ≡ next_arrival τ s.clock → hold_by (choice_of speeds s) next ≡ hold_of speeds τ (view_of s)
hold_is speeds τ s next n =
    elim (tested (eqb s.task 255))
    as (λ b _. pick b next (min (pick b 0 (running_time speeds (view_of s))) next) ≡ pick b (next_arrival τ s.clock) (min (running_time speeds (view_of s)) (next_arrival τ s.clock)))
    [ passed ↦ n | failed ↦ ap (min (running_time speeds (view_of s))) n ]

-- a block of some tasks with its keys, its count and its clock
pub record Timed (speeds b l : List ℕ) (count clock : ℕ) : Type 0 where
  pub holds : Holds b
  pub some : 1 ≤ state_count b
  pub keyed : Keyed (timing_in speeds b) (decode b).clock l
  pub same : count ≡ state_count b
  pub clock_is : clock ≡ (decode b).clock

module _ {speeds b l : List ℕ} {count clock : ℕ} (k : Timed speeds b l count clock) where
  tasks_are : count ≡ (timing_in speeds b).count
  tasks_are = k.same ∙ sym (timing_count b)

  -- every deadline is still to come
  pub choose_next :
      ((count ≤ places) × (1 ≤ count)) × ((i : ℕ) → i < count → (clock ≤ deadline_in (get_or l i 0)) × (get_or l i 0 < no_key))
  choose_next = (
    (omega (arith, k.same, k.holds.few), omega (arith, k.same, k.some)),
    λ i h. (
      omega (arith, k.clock_is, keys.key_after_lem (timing_in speeds b) (decode b).clock l k.keyed i (omega (arith, tasks_are))),
      keys.key_below (timing_in speeds b) (decode b).clock l k.keyed i (omega (arith, tasks_are)),
    ),
  )

  pub choose_when : (next : ℕ) → next ≡ deadline_in (least_to count (λ i. get_or l i 0)) - clock → next ≡ next_arrival (timing_in speeds b) (decode b).clock
  choose_when next n =
      n
      ∙ ap₂ (λ (x y : ℕ). deadline_in (least_to x (λ i. get_or l i 0)) - y) tasks_are k.clock_is
      ∙ keys.next_is (timing_in speeds b) (decode b).clock l k.keyed (omega (arith, tasks_are, k.same, k.some))
