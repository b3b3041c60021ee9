-- Starting: the order chosen in a fresh image, and what a start leaves.
-- Assumes nothing.
use Prim.Native.Nat.{ℕ, zero, suc, ◌^◌, ◌<◌, ◌≤◌}
use mathlib.Core.Path.{◌≡◌, refl, sym, subst, ap, ap₂, ◌∙◌}
use mathlib.Core.Bool.{Bool}
use mathlib.Core.List.{List, [], ◌∷◌, ◌++◌, map}
use native.Mathlib.Omega.{arith}
use borrow.Author.Tests.{le-leb, lt-leb}
use lib.ListN.{length, get_or, drop}
use Rattle.arith.specs.Choice.{pick}
use Rattle.plan.specs.declared.Task.{Task}
use Rattle.plan.specs.declared.Plan.{Plan}
use Rattle.plan.specs.declared.Judged.{Judged}
use Rattle.plan.specs.Counted.{refused}
use Rattle.plan.specs.Times.{whole, time_of}
use Rattle.plan.specs.Levels.{Rising, speed_of, nominal}
use Rattle.plan.specs.LevelBlocks.{loading, speeds_in}
use Rattle.plan.specs.Blocks.{no_task, tasks_of, tasks_in}
use Rattle.plan.specs.Questions.{judging, reading, room_question}
use Rattle.arith.specs.Asking.{Question, first_no}
use Rattle.plan.specs.Answers.{room_number, judged_by, stored_by}
use Rattle.plan.specs.Pairs.{pairs_question, paired_reading}
use Rattle.plan.proofs.Facts.{FineList, floor_at, fine_list}
use Rattle.plan.proofs.RoundTrip.{read_judged}
use Rattle.plan.proofs.AnswerLaws.{Refusal}
use Rattle.plan.proofs.JudgedLaws.{judged_refused, Admitted, none_answered_no, plan_is, tasks_are, level_is}
use Rattle.arith.proofs.QuestionLaws.{no_before, yes_before, yes_of}
use Rattle.schedule.specs.PlainSchedule.{Timing}
use Rattle.reclaiming.specs.declared.Entry.{Entry}
use Rattle.reclaiming.specs.Allotments.{timing}
use Rattle.reclaiming.specs.Orders.{hold_of, order_with}
use Rattle.reclaiming.specs.Replies.{Reply, replied_by}
use Rattle.reclaiming.specs.Fields.{width_of}
use Rattle.reclaiming.specs.StateBlock.{State, no_entry, end_fields, total_field, rest_in, task_of, plan_in, state_length, state_count, encode, decode, places}
use Rattle.reclaiming.specs.States.{chosen_state, new_entry, start_state, view_of}
use Rattle.reclaiming.specs.Calls.{start_number, start_order}
use Rattle.state.specs.Code.{Holds, entry_in, timing_in}
use Rattle.urgency.specs.Code.{latest_key, keys_in, Keyed}
use Rattle.arith.proofs.ArrayLaws.{value_at}
use Rattle.orders.specs.Code.{chosen_in, chosen_reply, Enough}
use Rattle.levels.specs.Code.{loaded}
use Rattle.levels.proofs.Tables.{Loads}
use Rattle.starting.specs.Image.{new_state}
use Rattle.plan.proofs.Held.{Ranged, count_is}
use Rattle.starting.specs.Code.{start_no}
use Rattle.reclaiming.proofs.Fine.{Fine, nominal_speed}
use Rattle.reclaiming.proofs.Plans.{task_range}
use Rattle.reclaiming.proofs.StateCodec.{Storable, StorableEntry, StorableTable, length-encode, decode-encode}
use Rattle.reclaiming.proofs.Soundness.{fine_storable}
use Rattle.arith.proofs.RangeLaws.{length-list_to, get_d_list_to}
use Rattle.reclaiming.proofs.PassedStates.{choose_clock, choose_entries, choose_speeds, choose_total}
use Rattle.reclaiming.proofs.PassSound.{start_fine}
use Rattle.state.proofs.BlockLaws.{count_in_lem, entry_at_lem}

-- a plan that was accepted over a table of speeds, with its nominal level
pub record Planned (speeds : List ℕ) (p : Plan) (level : ℕ) : Type 0 where
  pub plan : Ranged p
  pub good : FineList speeds (length (tasks_of p)) (tasks_of p)
  pub level_is : level ≡ nominal speeds (tasks_of p)

pub planned :
    (speeds : List ℕ) (p : Plan) (level : ℕ) →
    length p.tasks ≡ 16 →
    first_no (judging speeds p.count (tasks_of p)) ≡ 0 →
    level ≡ nominal speeds (tasks_of p) →
    Planned speeds p level
planned speeds p level size ok e =
    let f : FineList speeds p.count (tasks_of p) = fine_list speeds p.count (tasks_of p) ok in
    let l : Ranged p = record { held = record { places = size; most = f.count_high }; ranges = f.tasks.ranges } in
    record { plan = l; good = subst (λ (n : ℕ). FineList speeds n (tasks_of p)) (sym (count_is l.held)) f; level_is = e }

pub level_below : {speeds : List ℕ} {p : Plan} {level : ℕ} → Planned speeds p level → level < length speeds
level_below k = omega (arith, k.level_is, k.good.tasks.admitted)

-- what starting a plan leaves, by the number of its questions: a reply, and the bytes of the state
abbrev LeftBy : List ℕ → ℕ → List Task → List ℕ → Reply → List ℕ → Type 0
LeftBy speeds number ts buffer r m =
    (r ≡ replied_by number (start_order speeds (start_state speeds ts)))
    × (m ≡ stored_by number (encode (start_state speeds ts)) buffer)

module _ (speeds : List ℕ) where
  left_refused :
      (number n : ℕ) (ts : List Task) (buffer : List ℕ) →
      0 < n →
      number ≡ n →
      LeftBy speeds number ts buffer (refused n) buffer
  left_refused number zero ts buffer h e = absurd (omega arith)
  left_refused number (suc n) ts buffer h e = (
    sym (ap (λ (k : ℕ). replied_by k (start_order speeds (start_state speeds ts))) e),
    sym (ap (λ (k : ℕ). stored_by k (encode (start_state speeds ts)) buffer) e),
  )

  pub left_short :
      (ts : List Task) (buffer : List ℕ) →
      length buffer < state_length →
      LeftBy speeds (room_number state_length (length buffer)) ts buffer (refused 9) buffer
  left_short ts buffer h =
      left_refused (room_number state_length (length buffer)) 9 ts buffer (omega arith) (ap (λ (b : Bool). pick {A = ℕ} b 0 9) (lt-leb state_length (length buffer) h))

-- the image of a new state of an accepted plan, at its nominal speed, over a rising table of speeds
pub record Newly (speeds : List ℕ) (ts : List Task) (image : List ℕ) : Type 0 where
  pub rising : Rising speeds
  pub few : length speeds ≤ 16
  pub stored : StorableTable speeds
  pub good : FineList speeds (length ts) ts
  pub bytes : image ≡ encode (new_state speeds (nominal_speed speeds ts) ts)

pub newly :
    {speeds : List ℕ} {p : Plan} {level speed : ℕ} {image : List ℕ} →
    Rising speeds →
    StorableTable speeds →
    Planned speeds p level →
    speed ≡ speed_of speeds level →
    image ≡ encode (new_state speeds speed (tasks_of p)) →
    Newly speeds (tasks_of p) image
newly {speeds} {p} rising stored k s e = record {
  rising = rising;
  few = omega (arith, stored.few);
  stored = stored;
  good = k.good;
  bytes = e ∙ ap (λ (x : ℕ). encode (new_state speeds x (tasks_of p))) (s ∙ ap (speed_of speeds) k.level_is);
}

module _ {speeds : List ℕ} {ts : List Task} {image : List ℕ} (new : Newly speeds ts image) where
  abbrev speed : ℕ
  speed = nominal_speed speeds ts

  abbrev τ : Timing
  τ = timing speeds ts

  abbrev N : State
  N = new_state speeds speed ts

  abbrev S : State
  S = start_state speeds ts

  fine : Fine speeds ts S
  fine = start_fine speeds ts new.good new.rising

  start_clock : S.clock ≡ 0
  start_clock = choose_clock speeds τ N

  start_storable : Storable S
  start_storable =
      fine_storable speeds ts S new.good new.rising new.few fine (omega (arith, start_clock))
      (subst StorableTable (sym (choose_speeds speeds τ N)) new.stored)

  entries_are : S.entries ≡ N.entries
  entries_are = choose_entries speeds τ N

  new_length : length N.entries ≡ length ts
  new_length = length-list_to (length ts) (new_entry τ ts)

  storable : Storable N
  storable = record {
    clock = omega arith;
    task = omega arith;
    level = omega arith;
    count = omega (arith, new_length, new.good.count_high);
    entries = subst (λ (es : List Entry). (i : ℕ) → i < length es → StorableEntry (get_or es i no_entry)) entries_are start_storable.entries;
    table = new.stored;
    total = subst (λ (x : ℕ). x < 256 ^ width_of end_fields total_field) (choose_total speeds τ N) start_storable.total;
  }

  -- it is read back
  new_read : decode image ≡ N
  new_read = ap decode new.bytes ∙ decode-encode N storable

  new_back : encode (decode image) ≡ image
  new_back = ap encode new_read ∙ sym new.bytes

  new_tasks : state_count image ≡ length ts
  new_tasks = sym (count_in_lem image) ∙ ap (λ (s : State). length s.entries) new_read ∙ new_length

  pub new_size : length image ≡ state_length
  new_size = ap length new.bytes ∙ length-encode N storable.count

  new_holds : Holds image
  new_holds = record { size = new_size; few = omega (arith, new_tasks, new.good.count_high) }

  new_timing : timing_in speeds image ≡ τ
  new_timing =
      ap (λ (s : State). timing speeds (plan_in s)) new_read
      ∙ ap (timing speeds) (sym (ap (λ (es : List Entry). map task_of es) entries_are) ∙ fine.entries.plan)

  module _ (i : ℕ) (h : i < length ts) where
    new_at : get_or (decode image).entries i no_entry ≡ new_entry τ ts i
    new_at = ap (λ (s : State). get_or s.entries i no_entry) new_read ∙ get_d_list_to (length ts) (new_entry τ ts) i no_entry h

    new_in : entry_in image i ≡ new_entry τ ts i
    new_in = sym (entry_at_lem image i (omega (arith, new_tasks))) ∙ new_at

  pub new_periods : (i : ℕ) → i < length ts → 1 ≤ (entry_in image i).period
  new_periods i h =
      subst (λ (e : Entry). 1 ≤ e.period) (sym (new_in i h)) (task_range speeds ts new.good new.rising i h).period_low

  -- at the nominal level every job can be done in its ticks
  new_enough : (highest : ℕ) → highest ≡ nominal speeds ts → Enough speeds (decode image) highest
  new_enough highest e = record {
    level = omega (arith, new.good.tasks.admitted);
    floors = λ i h.
        let k : i < length ts = omega (arith, count_in_lem image, new_tasks) in
        subst (λ (x : Entry). x.floor < length speeds) (sym (new_at i k)) (floor_at (length speeds) ts i new.good.tasks.floors k);
    each = λ i h.
        let k : i < length ts = omega (arith, count_in_lem image, new_tasks) in
        subst (λ (x : Entry). time_of (speed_of speeds highest) (rest_in x) ≤ x.remaining) (sym (new_at i k))
        (subst (λ (level : ℕ). time_of (speed_of speeds level) (whole (get_or ts i no_task)) ≤ τ.allotment i) (sym e) (omega arith));
  }

  -- with the keys that are found
  module _ {count : ℕ} (same : count ≡ length ts) {keys : List ℕ} (found : keys ≡ keys_in image count 0) where
    keyed : Keyed τ 0 keys
    keyed = record {
      few = new.good.count_high;
      low = λ i h. (task_range speeds ts new.good new.rising i h).period_low;
      high = λ i h. (task_range speeds ts new.good new.rising i h).period_high;
      in_range = omega arith;
      each = λ i h.
          ap (λ (l : List ℕ). get_or l i 0) found
          ∙ value_at places 0 count (λ j. latest_key 0 (entry_in image j).period j) i (omega arith)
          ∙ ap (λ (e : Entry). latest_key 0 e.period i) (new_in i h);
    }

    new_keyed : Keyed (timing_in speeds image) (decode image).clock keys
    new_keyed =
        subst (λ (x : Timing). Keyed x (decode image).clock keys) (sym new_timing)
        (subst (λ (t : ℕ). Keyed τ t keys) (sym (ap (λ (s : State). s.clock) new_read)) keyed)

    pub new_ready :
        (highest : ℕ) →
        highest ≡ nominal speeds ts →
        (Holds image × (1 ≤ state_count image) × (encode (decode image) ≡ image))
        × (Enough speeds (decode image) highest × Keyed (timing_in speeds image) (decode image).clock keys)
    new_ready highest e = ((new_holds, omega (arith, new_tasks, new.good.count_low), new_back), (new_enough highest e, new_keyed))

  -- the order that is chosen in it is that of the start
  chosen_is : chosen_in speeds image ≡ S
  chosen_is = ap₂ (λ (x : Timing) (s : State). chosen_state speeds x s) new_timing new_read

  -- its reply, and its bytes where there is room for them
  pub new_left_lem :
      (buffer : List ℕ) {l m : List ℕ} {r : Reply} →
      state_length ≤ length buffer →
      r ≡ chosen_reply speeds image →
      l ≡ encode (chosen_in speeds image) →
      m ≡ l ++ drop state_length buffer →
      LeftBy speeds (room_number state_length (length buffer)) ts buffer r m
  new_left_lem buffer {l} {m} {r} h a b e =
      let zero_is : 0 ≡ room_number state_length (length buffer) = sym (ap (λ (t : Bool). pick {A = ℕ} t 0 9) (le-leb state_length (length buffer) h)) in
      let order : r ≡ start_order speeds S =
      a
      ∙ ap₂ (λ (x : Timing) (s : State). order_with (view_of s) (hold_of speeds x (view_of s))) new_timing chosen_is
      ∙ sym (ap (λ (us : List Task). order_with (view_of S) (hold_of speeds (timing speeds us) (view_of S))) fine.entries.plan) in
      let stored : m ≡ stored_by 0 (encode S) buffer =
      e
      ∙ ap (λ (x : List ℕ). x ++ drop state_length buffer) (b ∙ ap encode chosen_is)
      ∙ ap (λ (n : ℕ). encode S ++ drop n buffer) (sym (length-encode S start_storable.count)) in
      subst (λ (n : ℕ). LeftBy speeds n ts buffer r m) zero_is (order, stored)

-- what starting a block with its pairs leaves at a table of speeds: a reply, and the bytes of the state
abbrev pub Left : List ℕ → List ℕ → List ℕ → List ℕ → Reply → List ℕ → Type 0
Left speeds block pairs buffer r m = LeftBy speeds (start_no speeds block pairs (length buffer)) (tasks_in block) buffer r m

-- by what reading the block with them answers
module _ (speeds block pairs : List ℕ) where
  abbrev pub read_number : ℕ
  read_number = first_no (paired_reading speeds block pairs)

  abbrev then_room : List ℕ → List Question
  then_room buffer = room_question state_length (length buffer) ∷ []

  pub start_unread :
      (buffer : List ℕ) {j : Judged} {n : ℕ} →
      j ≡ judged_by read_number speeds (tasks_in block) →
      j.verdict ≡ refused n →
      Left speeds block pairs buffer (refused n) buffer
  start_unread buffer {n = n} read told =
      let f : Refusal read_number n = judged_refused speeds read_number (tasks_in block) read told in
      left_refused speeds (start_no speeds block pairs (length buffer)) n (tasks_in block) buffer f.positive
      (no_before (paired_reading speeds block pairs) (then_room buffer) n f.positive f.is)

  module _ {j : Judged} {level span : ℕ} (k : Admitted speeds read_number (tasks_in block) j level span) where
    accepted : first_no (reading speeds block) ≡ 0
    accepted = yes_of (reading speeds block) (pairs_question (tasks_in block) pairs ∷ []) (none_answered_no k)

    pub start_read : (first_no (judging speeds j.plan.count (tasks_of j.plan)) ≡ 0) × (level ≡ nominal speeds (tasks_of j.plan))
    start_read = (
      read_judged speeds block j.plan accepted (plan_is k),
      level_is k ∙ sym (ap (nominal speeds) (tasks_are k)),
    )

    pub start_left :
        (buffer : List ℕ) {r : Reply} {m : List ℕ} →
        LeftBy speeds (room_number state_length (length buffer)) (tasks_of j.plan) buffer r m →
        Left speeds block pairs buffer r m
    start_left buffer {r} {m} h =
        subst (λ (n : ℕ). LeftBy speeds n (tasks_in block) buffer r m)
        (sym (yes_before (paired_reading speeds block pairs) (then_room buffer) refl (none_answered_no k)))
        (subst (λ (ts : List Task). LeftBy speeds (room_number state_length (length buffer)) ts buffer r m) (tasks_are k) h)

-- what starting leaves by the call's own definitions
abbrev pub Started : List ℕ → List ℕ → List ℕ → List ℕ → Reply → List ℕ → Type 0
Started levels block pairs buffer r m = LeftBy (speeds_in levels) (start_number levels block pairs (length buffer)) (tasks_in block) buffer r m

module _ (levels block pairs buffer : List ℕ) where
  abbrev own : List Question
  own = paired_reading (speeds_in levels) block pairs ++ (room_question state_length (length buffer) ∷ [])

  -- the level block is refused
  pub start_unloaded : {n : ℕ} → Refusal (first_no (loading levels)) n → Started levels block pairs buffer (refused n) buffer
  start_unloaded {n} f =
      left_refused (speeds_in levels) (start_number levels block pairs (length buffer)) n (tasks_in block) buffer f.positive
      (no_before (loading levels) own n f.positive f.is)

  -- it is accepted, and the plan is started over its speeds
  pub start_loaded :
      {held : List ℕ} {count : ℕ} {r : Reply} {m : List ℕ} →
      Loads levels held count →
      Left (loaded held count) block pairs buffer r m →
      Started levels block pairs buffer r m
  start_loaded {r = r} {m = m} k h =
      subst (λ (n : ℕ). LeftBy (speeds_in levels) n (tasks_in block) buffer r m) (sym (yes_before (loading levels) own refl k.number))
      (subst (λ (l : List ℕ). Left l block pairs buffer r m) k.is h)
