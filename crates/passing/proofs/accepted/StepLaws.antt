-- What an accepted pass makes of a state, and its order, are those of the definitions.
-- Assumes nothing.
use Prim.Native.Nat.{ℕ, ◌+◌, ◌-◌, ◌<◌, ◌≤◌, min}
use mathlib.Core.Path.{◌≡◌, sym, ap, ap₂, subst, ◌∙◌}
use mathlib.Core.Bool.{Bool, true, false, not}
use mathlib.Core.List.{List}
use native.Mathlib.Decide.{ℕ_discrete}
use native.Mathlib.Omega.{arith}
use borrow.Author.Tests.{eq-eqb, ne_eqb}
use lib.Dec.{eqb}
use lib.ListN.{length, get_or}
use Rattle.arith.specs.Choice.{pick}
use Rattle.plan.specs.declared.Task.{Task}
use Rattle.plan.specs.Times.{time_of}
use Rattle.plan.specs.Levels.{Rising, speed_of, nominal}
use Rattle.plan.specs.Blocks.{no_task}
use Rattle.arith.specs.Asking.{first_no}
use Rattle.plan.proofs.Facts.{FineList, floor_at}
use Rattle.schedule.specs.PlainSchedule.{Timing}
use Rattle.reclaiming.specs.declared.Entry.{Entry}
use Rattle.orders.specs.declared.Choice.{Choice}
use Rattle.reclaiming.specs.Replies.{Reply}
use Rattle.reclaiming.specs.Allotments.{timing}
use Rattle.reclaiming.specs.Orders.{next_arrival, running_time, hold_of, order_with}
use Rattle.reclaiming.specs.Passes.{arrives_at, chooses_anew, largest_clock, pass_questions}
use Rattle.reclaiming.specs.StateBlock.{State, no_entry, remaining_of, rest_of, plan_in, encode, decode, state_count, places}
use Rattle.reclaiming.specs.States.{chosen_state, moved_state, passed_state, view_of}
use Rattle.reclaiming.specs.Questions.{sound_at, state_sound}
use Rattle.reclaiming.specs.Calls.{pass_order}
use Rattle.arith.specs.Ranges.{some_to}
use Rattle.state.specs.Code.{Holds, entry_in, timing_in}
use Rattle.urgency.specs.Code.{key_of, no_key, due_at, Keyed}
use Rattle.orders.specs.Code.{choice_of, chosen_in, chosen_reply, hold_by, order_of, Enough}
use Rattle.soundness.specs.Code.{Good}
use Rattle.ticks.specs.Code.{Stepping, renewed_keys}
use Rattle.reclaiming.proofs.Fine.{FineEntries, fine_floor, Accepted}
use Rattle.reclaiming.proofs.StateCodec.{Storable, StorableTable, decode-encode, length-encode}
use Rattle.reclaiming.proofs.Soundness.{plan_in_at, length-plan_in, pass_accepted, entries_storable, total_storable, fine_small, sound_state}
use Rattle.reclaiming.proofs.NextArrival.{next_arrives, before_next, next_on}
use Rattle.reclaiming.proofs.PassedStates.{passed_entries}
use Rattle.reclaiming.proofs.PassSound.{moved_fine, anew_ahead}
use Rattle.state.proofs.BlockLaws.{count_in_lem, entry_at_lem}
use Rattle.urgency.proofs.KeyLaws.{key_below, keyed_after, keyed_on}
use Rattle.orders.proofs.OrderLaws.{hold_is}
use Rattle.arith.proofs.ArrayLaws.{value_at}
use Rattle.soundness.proofs.SoundFacts.{sound_plan, sound_facts, nominal_small, entries_few, period_some, count_some}

-- ticks from a sound block on, up to its next arrival
pub record Reaching (speeds bytes : List ℕ) (next d : ℕ) : Type 0 where
  pub rising : Rising speeds
  pub ok : sound_at speeds bytes ≡ true
  pub some : 1 ≤ d
  pub within : d ≤ next
  pub arrival : next ≡ next_arrival (timing_in speeds bytes) (decode bytes).clock

-- the periods of a sound state's tasks are above 0
periods : (speeds : List ℕ) → Rising speeds → (s : State) → state_sound speeds s ≡ true → (i : ℕ) → i < length (plan_in s) → 0 < (timing speeds (plan_in s)).period i
periods speeds rising s ok i h = period_some speeds rising s ok i (omega (arith, length-plan_in s))

module _ {speeds bytes : List ℕ} {next d : ℕ} (k : Reaching speeds bytes next d) where
  abbrev s : State
  s = decode bytes

  abbrev arrives : Bool
  arrives = some_to (timing_in speeds bytes).count (arrives_at (timing_in speeds bytes) (s.clock + d))

  -- a job arrives exactly at the next arrival
  arrives_then : eqb d next ≡ arrives
  arrives_then =
      let ok : state_sound speeds s ≡ true = sound_state speeds bytes k.ok in
      let some : 1 ≤ (timing_in speeds bytes).count = (sound_plan speeds k.rising s ok).count_low in
      elim (ℕ_discrete d next) [
        | yes e ↦ eq-eqb d next e ∙ sym (next_arrives (timing_in speeds bytes) some (periods speeds k.rising s ok) s.clock d (e ∙ k.arrival))
        | no e ↦
            ne_eqb d next e
            ∙ sym (before_next (timing_in speeds bytes) some (periods speeds k.rising s ok) s.clock d k.some (omega (arith, k.arrival, k.within, e)))
      ]

  -- so an order is chosen anew if the job finished, or there
  pub anew_finished : {finished : Bool} → finished ≡ true → true ≡ chooses_anew (timing_in speeds bytes) (view_of s) d finished
  anew_finished f = sym (ap (λ (b : Bool). pick b true arrives) f)

  pub anew_arrives : {finished : Bool} → finished ≡ false → eqb d next ≡ chooses_anew (timing_in speeds bytes) (view_of s) d finished
  anew_arrives f = arrives_then ∙ sym (ap (λ (b : Bool). pick b true arrives) f)

-- a pass from a sound state that the questions let through
pub record Letting (speeds : List ℕ) (s : State) (d : ℕ) (finished : Bool) : Type 0 where
  pub rising : Rising speeds
  pub few : length speeds ≤ 16
  pub stored : StorableTable s.speeds
  pub ok : state_sound speeds s ≡ true
  pub clear : first_no (pass_questions speeds (timing speeds (plan_in s)) (view_of s) d finished) ≡ 0

module _ {speeds : List ℕ} {s : State} {d : ℕ} {finished : Bool} (k : Letting speeds s d finished) where
  abbrev τ : Timing
  τ = timing speeds (plan_in s)

  abbrev moved : State
  moved = moved_state speeds τ s d finished

  lets : Accepted speeds τ s d finished
  lets = (pass_accepted speeds s d finished k.clear).0

  late : s.clock + d ≤ largest_clock
  late = (pass_accepted speeds s d finished k.clear).1

  plan : FineList speeds (length (plan_in s)) (plan_in s)
  plan = sound_plan speeds k.rising s k.ok

  -- the moved state is fine but for its order, so it fits its block
  moved_facts : FineEntries speeds (plan_in s) moved
  moved_facts = moved_fine speeds k.rising (plan_in s) plan s (sound_facts speeds k.rising s k.ok) d finished lets

  moved_count : length moved.entries ≡ length s.entries
  moved_count = sym (length-plan_in moved) ∙ ap length moved_facts.plan ∙ length-plan_in s

  moved_storable : Storable moved
  moved_storable =
      let old = fine_small speeds (plan_in s) s plan k.few (sound_facts speeds k.rising s k.ok) in
      record {
        clock = omega (arith, late);
        task = old.0;
        level = old.1;
        count = omega (arith, moved_count, entries_few speeds k.rising s k.ok);
        entries = entries_storable speeds (plan_in s) moved plan k.rising k.few moved_facts;
        table = k.stored;
        total = total_storable speeds (plan_in s) moved plan k.rising k.few moved_facts;
      }

  -- where an order is chosen anew, every job can be done in its ticks at the nominal level
  moved_enough : chooses_anew τ (view_of s) d finished ≡ true → {highest : ℕ} → highest ≡ nominal speeds (plan_in s) → Enough speeds moved highest
  moved_enough anew e = record {
    level = omega (arith, nominal_small speeds k.rising s k.ok);
    floors = λ i h.
        omega (
          arith,
          fine_floor moved_facts i,
          floor_at (length speeds) (plan_in s) i plan.tasks.floors (omega (arith, moved_count, length-plan_in s)),
        );
    each = λ i h.
        subst (λ (level : ℕ). time_of (speed_of speeds level) (rest_of moved i) ≤ remaining_of moved i) (sym e)
        (anew_ahead speeds k.rising (plan_in s) plan s (sound_facts speeds k.rising s k.ok) d finished lets anew i
        (omega (arith, moved_count, length-plan_in s)));
  }

  -- the order where it stays, and where it is chosen anew
  abbrev ordered : Bool → Reply
  ordered b =
      order_with (view_of (pick b (chosen_state speeds τ moved) moved))
      (pick b (hold_of speeds τ (view_of (pick b (chosen_state speeds τ moved) moved))) (hold_of speeds τ (view_of s) - d))

  -- a pass leaves as many entries
  pub passed_few : length (passed_state speeds τ s d finished).entries ≤ places
  passed_few =
      omega (arith, ap length (passed_entries speeds τ s d finished), moved_count, entries_few speeds k.rising s k.ok)

-- a pass from a sound block that the questions let through, with the order that stands and the next arrival
pub record Passing (speeds bytes keys : List ℕ) (highest next d : ℕ) (finished : Bool) (c : Choice) : Type 0 where
  pub rising : Rising speeds
  pub few : length speeds ≤ 16
  pub stored : StorableTable (decode bytes).speeds
  pub good : Good speeds bytes keys highest
  pub order : c ≡ choice_of speeds (decode bytes)
  pub arrival : next ≡ next_arrival (timing_in speeds bytes) (decode bytes).clock
  pub clear : first_no (pass_questions speeds (timing speeds (plan_in (decode bytes))) (view_of (decode bytes)) d finished) ≡ 0

module _ {speeds bytes keys : List ℕ} {highest next d : ℕ} {finished : Bool} {c : Choice} (k : Passing speeds bytes keys highest next d finished c) where
  pub letting : Letting speeds (decode bytes) d finished
  letting = record { rising = k.rising; few = k.few; stored = k.stored; ok = sound_state speeds bytes k.good.sound; clear = k.clear }

  pub stepping : Stepping speeds bytes keys highest d
  stepping = record {
    good = k.good;
    some = (lets letting).some;
    within = (lets letting).within;
    clock = late letting;
  }

  pub reaching : Reaching speeds bytes next d
  reaching = record {
    rising = k.rising;
    ok = k.good.sound;
    some = (lets letting).some;
    within = omega (arith, (lets letting).within, k.arrival);
    arrival = k.arrival;
  }

  hold_now : hold_by c next ≡ hold_of speeds (timing_in speeds bytes) (view_of (decode bytes))
  hold_now = ap (λ (x : Choice). hold_by x next) k.order ∙ hold_is speeds (timing_in speeds bytes) (decode bytes) next k.arrival

  -- the hold that stands is at least the ticks of the pass
  pub hold_enough : (hold : ℕ) → hold ≡ hold_by c next → d ≤ hold
  hold_enough hold h =
      let s : State = decode bytes in
      let at : hold ≡ hold_of speeds (timing_in speeds bytes) (view_of s) = h ∙ hold_now in
      elim (ℕ_discrete s.task 255) [
        | yes e ↦
            let z : hold_of speeds (timing_in speeds bytes) (view_of s) ≡ next_arrival (timing_in speeds bytes) s.clock = simp (eq-eqb s.task 255 e) in
            omega (arith, (lets letting).within)
        | no e ↦
            let z : hold_of speeds (timing_in speeds bytes) (view_of s) ≡ min (running_time speeds (view_of s)) (next_arrival (timing_in speeds bytes) s.clock) =
            simp (ne_eqb s.task 255 e) in
            omega (arith, (lets letting).within, (lets letting).time (ap not (ne_eqb s.task 255 e)))
      ]

-- and the bytes that it was moved on to
pub record After (speeds bytes keys : List ℕ) (highest next d : ℕ) (finished : Bool) (c : Choice) (m : List ℕ) : Type 0 where
  pub passing : Passing speeds bytes keys highest next d finished c
  pub moved : m ≡ encode (moved_state speeds (timing_in speeds bytes) (decode bytes) d finished)

module _ {speeds bytes keys : List ℕ} {highest next d : ℕ} {finished : Bool} {c : Choice} {m : List ℕ} (k : After speeds bytes keys highest next d finished c m) where
  abbrev start : State
  start = decode bytes

  abbrev T : Timing
  T = timing_in speeds bytes

  abbrev then : State
  then = moved_state speeds T start d finished

  allowed : Letting speeds start d finished
  allowed = letting k.passing

  back : decode m ≡ then
  back = ap decode k.moved ∙ decode-encode then (moved_storable allowed)

  same_timing : timing_in speeds m ≡ T
  same_timing = ap (λ (x : State). timing speeds (plan_in x)) back ∙ ap (timing speeds) (moved_facts allowed).plan

  same_count : state_count m ≡ length start.entries
  same_count = sym (count_in_lem m) ∙ ap (λ (x : State). length x.entries) back ∙ moved_count allowed

  clock_then : (decode m).clock ≡ start.clock + d
  clock_then = ap (λ (x : State). x.clock) back

  pub after_holds : Holds m
  after_holds = record {
    size = ap length k.moved ∙ length-encode then (moved_storable allowed).count;
    few = omega (arith, same_count, entries_few speeds k.passing.rising start allowed.ok);
  }

  pub after_some : 1 ≤ state_count m
  after_some = omega (arith, same_count, count_in_lem bytes, count_some speeds k.passing.rising bytes k.passing.good.sound)

  pub after_clock : (clock : ℕ) → clock ≡ (decode m).clock → clock ≤ largest_clock
  after_clock clock t = omega (arith, clock_then, late allowed)

  pub after_below : (count : ℕ) → count ≡ state_count m → (i : ℕ) → i < count → get_or keys i 0 < no_key
  after_below count n i h =
      key_below T start.clock keys k.passing.good.keyed i (omega (arith, same_count, length-plan_in start))

  pub after_again : encode (decode m) ≡ m
  after_again = ap encode back ∙ sym k.moved

  pub after_enough : chooses_anew T (view_of start) d finished ≡ true → Enough speeds (decode m) highest
  after_enough anew = subst (λ (x : State). Enough speeds x highest) (sym back) (moved_enough allowed anew k.passing.good.nominal)

  -- keys at its clock are keys of its block
  keyed_then : (r : List ℕ) → Keyed T (start.clock + d) r → Keyed (timing_in speeds m) (decode m).clock r
  keyed_then r new =
      subst (λ (x : Timing). Keyed x (decode m).clock r) (sym same_timing)
      (subst (λ (x : ℕ). Keyed T x r) (sym clock_then) new)

  period_then : (i : ℕ) → i < state_count m → (entry_in m i).period ≡ T.period i
  period_then i h =
      ap (λ (x : Entry). x.period) (sym (entry_at_lem m i h))
      ∙ ap (λ (x : State). (get_or x.entries i no_entry).period) back
      ∙ ap (λ (x : Task). x.period) (sym (plan_in_at then i))
      ∙ ap (λ (l : List Task). (get_or l i no_task).period) (moved_facts allowed).plan

  pub after_keyed :
      (count clock : ℕ) →
      count ≡ state_count m →
      clock ≡ (decode m).clock →
      (r : List ℕ) →
      r ≡ renewed_keys m keys count clock →
      Keyed (timing_in speeds m) (decode m).clock r
  after_keyed count clock n t r e =
      keyed_then r
      (keyed_after T start.clock keys k.passing.good.keyed d (lets allowed).some (lets allowed).within r (late allowed)
      (λ i h.
      let w : i < state_count m = omega (arith, same_count, length-plan_in start) in
      ap (λ (l : List ℕ). get_or l i 0) e
      ∙ value_at places 0 count (λ j. pick (due_at keys clock j) (key_of (clock + (entry_in m j).period) (entry_in m j).period j) (get_or keys j 0)) i (omega (arith, n))
      ∙ ap₂ (λ (x y : ℕ). pick (due_at keys x i) (key_of (x + y) y i) (get_or keys i 0)) (t ∙ clock_then) (period_then i w)))

  -- before the next arrival its keys are the old ones, and the arrival is d ticks nearer
  module _ (h : d < next) where
    before : d < next_arrival T start.clock
    before = omega (arith, k.passing.arrival)

    pub after_kept : Keyed (timing_in speeds m) (decode m).clock keys
    after_kept = keyed_then keys (keyed_on T start.clock keys k.passing.good.keyed d (lets allowed).some before (late allowed))

    pub after_next : next - d ≡ next_arrival (timing_in speeds m) (decode m).clock
    after_next =
        ap (λ (x : ℕ). x - d) k.passing.arrival
        ∙ sym (next_on T (plan allowed).count_low (periods speeds k.passing.rising start allowed.ok) start.clock d before)
        ∙ ap₂ next_arrival (sym same_timing) (sym clock_then)

  -- an order stays, or is chosen
  module _ (stays : chooses_anew T (view_of start) d finished ≡ false) where
    pub kept_bytes : m ≡ encode (passed_state speeds T start d finished)
    kept_bytes = k.moved ∙ ap (λ (b : Bool). encode (pick b (chosen_state speeds T then) then)) (sym stays)

    pub kept_reply : (hold : ℕ) → hold ≡ hold_by c next → (r : Reply) → r ≡ order_of c (hold - d) → r ≡ pass_order speeds start d finished
    kept_reply hold e r q =
        q
        ∙ ap₂ (λ (x : Choice) (y : ℕ). order_of x (y - d)) k.passing.order (e ∙ hold_now k.passing)
        ∙ ap (ordered allowed) (sym stays)

  module _ (anew : chooses_anew T (view_of start) d finished ≡ true) where
    pub chosen_bytes : (l : List ℕ) → l ≡ encode (chosen_in speeds m) → l ≡ encode (passed_state speeds T start d finished)
    chosen_bytes l h =
        h
        ∙ ap₂ (λ (x : Timing) (y : State). encode (chosen_state speeds x y)) same_timing back
        ∙ ap (λ (b : Bool). encode (pick b (chosen_state speeds T then) then)) (sym anew)

    pub chosen_reply_lem :
        (r : Reply) →
        r ≡ chosen_reply speeds m →
        r ≡ pass_order speeds start d finished
    chosen_reply_lem r h =
        h
        ∙ ap₂ (λ (x : Timing) (y : State). order_with (view_of (chosen_state speeds x y)) (hold_of speeds x (view_of (chosen_state speeds x y)))) same_timing back
        ∙ ap (ordered allowed) (sym anew)
