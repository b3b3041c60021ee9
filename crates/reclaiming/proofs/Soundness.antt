-- Between tests and facts: a state is sound exactly if it is fine, a pass gets no refusal exactly if it is accepted, and a fine state
-- fits its block.
-- Assumes nothing.
use Prim.Native.Nat.{ℕ, suc, ◌+◌, ◌^◌, ◌<◌, ◌≤◌}
use mathlib.Core.Path.{◌≡◌, refl, sym, subst, ap, ◌∙◌}
use mathlib.Core.Bool.{Bool, true, false}
use mathlib.Core.List.{List, [], ◌∷◌, ◌++◌}
use mathlib.Core.Logic.{◌⊎◌, inl, inr}
use native.Mathlib.Omega.{arith}
use borrow.Author.Tests.{leb-true, le-leb, eqb-true, eq-eqb}
use lib.Dec.{leb, ltb, eqb}
use lib.ListN.{length, get_or, length-map, get_or-map}
use Rattle.arith.specs.Choice.{pick, both, every}
use Rattle.arith.specs.Asking.{Question, ask, first_no}
use Rattle.arith.proofs.Tests.{passed, failed, tested, both_left, both_right, both_true, only_if, if_so, either_second}
use Rattle.arith.proofs.ListLaws.{every_at, at_every}
use Rattle.arith.specs.Sum.{sum_to}
use Rattle.arith.proofs.Sums.{sum_of_places, sum_of_most}
use Rattle.arith.proofs.QuestionLaws.{Yes, all_yes, yes_all, ask_yes, yes_before, yes_of, yes_after}
use Rattle.plan.specs.declared.Task.{Task}
use Rattle.plan.specs.Times.{whole, Within, time_of, task_time}
use Rattle.plan.specs.Levels.{Rising, nominal}
use Rattle.plan.specs.LevelBlocks.{table_good, loading, speeds_in}
use Rattle.plan.specs.Blocks.{no_task, tasks_in}
use Rattle.plan.specs.Pairs.{pairs_good, pairs_question, paired_reading}
use Rattle.plan.specs.Questions.{judging, reading, room_question}
use Rattle.plan.proofs.LevelBlockLaws.{FineTable, fine_table, loaded_table}
use Rattle.plan.proofs.Facts.{FineList, InRange, floor_at, fine_list, list_yes, fine_block, block_list}
use Rattle.reclaiming.specs.declared.Entry.{Entry}
use Rattle.reclaiming.specs.Allotments.{timing}
use Rattle.reclaiming.specs.Orders.{next_arrival, is_lone, open_jobs, running_time, running}
use Rattle.reclaiming.specs.Passes.{largest_clock, in_time, step_questions, pass_questions}
use Rattle.reclaiming.specs.Fields.{width_of}
use Rattle.reclaiming.specs.StateBlock.{State, no_entry, queued_in, end_fields, total_field, rest_of, remaining_of, rest_in, task_of, plan_in, decode, laid_out, state_length}
use Rattle.reclaiming.specs.States.{view_of}
use Rattle.reclaiming.specs.Questions.{fixed_sound, entry_sound, entry_ahead, order_sound, fits_gap, total_sound, state_sound, sound_at, sound, starting}
use Rattle.reclaiming.proofs.Fine.{nominal_speed, FineEntries, fine_floor, Ahead, Gap, Fine, Accepted}
use Rattle.reclaiming.proofs.Plans.{task_range, allotment_short}
use Rattle.reclaiming.proofs.StateCodec.{StorableEntry, StorableTable, Storable}
use Rattle.reclaiming.proofs.OrderFacts.{idles, runs, order_facts}
use Rattle.reclaiming.proofs.Lone.{lone_closed, closed_lone}

-- an entry of the plan in a state
pub plan_in_at : (s : State) (i : ℕ) → get_or (plan_in s) i no_task ≡ task_of (get_or s.entries i no_entry)
plan_in_at s i = get_or-map task_of s.entries i no_entry

pub length-plan_in : (s : State) → length (plan_in s) ≡ length s.entries
length-plan_in s = length-map s.entries task_of

-- the plain ticks left in all, task by task
pub queued_places : (s : State) {n : ℕ} → length s.entries ≡ n → queued_in s.entries ≡ sum_to n (remaining_of s)
queued_places s all = sum_of_places (λ (e : Entry). e.remaining) s.entries no_entry ∙ ap (λ (m : ℕ). sum_to m (remaining_of s)) all

-- a fine state has an entry for each task
pub fine_length : {speeds : List ℕ} {ts : List Task} {s : State} → FineEntries speeds ts s → length s.entries ≡ length ts
fine_length {s = s} f = sym (length-plan_in s) ∙ ap length f.plan

-- an entry
pub record FineEntry (speed : ℕ) (e : Entry) : Type 0 where
  pub left : Within (rest_in e) (whole (task_of e))
  pub closed : e.work ≡ 0 → e.unspent ≡ 0
  pub remaining : e.remaining ≤ task_time speed (task_of e)

pub fine_entry : (speed : ℕ) (e : Entry) → entry_sound speed e ≡ true → FineEntry speed e
fine_entry speed e h =
    let w : Bool = leb e.work e.worst in
    let u : Bool = leb e.unspent e.fixed in
    let z : Bool = pick (eqb e.work 0) (eqb e.unspent 0) true in
    let a : Bool = both w (fixed_sound e) in
    let b : Bool = leb e.remaining (task_time speed (task_of e)) in
    let j : a ≡ true = both_left a b h in
    let l : fixed_sound e ≡ true = both_right w (fixed_sound e) j in
    record {
      left = record {
        fixed = leb-true e.unspent e.fixed (both_left u z l);
        work = leb-true e.work e.worst (both_left w (fixed_sound e) j);
      };
      closed = λ n. eqb-true e.unspent 0 (if_so (eqb e.work 0) (eqb e.unspent 0) (both_right u z l) (eq-eqb e.work 0 n));
      remaining = leb-true e.remaining (task_time speed (task_of e)) (both_right a b h);
    }

entry_sound_lem : (speed : ℕ) (e : Entry) → FineEntry speed e → entry_sound speed e ≡ true
entry_sound_lem speed e f =
    both_true
    (both_true (le-leb e.work e.worst f.left.work)
    (both_true (le-leb e.unspent e.fixed f.left.fixed)
    (only_if (eqb e.work 0) (eqb e.unspent 0) (λ n. eq-eqb e.unspent 0 (f.closed (eqb-true e.work 0 n))))))
    (le-leb e.remaining (task_time speed (task_of e)) f.remaining)

-- the tests of how a state keeps up, both ways
module _ (speeds : List ℕ) (ts : List Task) (s : State) (size : length s.entries ≡ length ts) where
  abbrev ahead_test : Bool
  ahead_test = every (entry_ahead (nominal_speed speeds ts)) s.entries

  pub ahead_all : ahead_test ≡ true → Ahead speeds ts s
  ahead_all h i k =
      leb-true (time_of (nominal_speed speeds ts) (rest_of s i)) (remaining_of s i)
      (every_at (entry_ahead (nominal_speed speeds ts)) s.entries i no_entry h (omega (arith, size)))

  pub all_ahead : Ahead speeds ts s → ahead_test ≡ true
  all_ahead a =
      at_every (entry_ahead (nominal_speed speeds ts)) s.entries no_entry
      (λ i k. le-leb (time_of (nominal_speed speeds ts) (rest_of s i)) (remaining_of s i) (a i (omega (arith, size))))

  gap_fits : fits_gap speeds (timing speeds ts) (view_of s) ≡ true → Gap speeds ts s
  gap_fits h =
      let lone : Bool = is_lone (timing speeds ts) (view_of s) s.task in
      let next : ℕ = next_arrival (timing speeds ts) s.clock in
      let short : Bool = leb (running_time speeds (view_of s)) next in
      record {
        others = lone_closed (timing speeds ts) s s.task (both_left lone short h);
        time = leb-true (running_time speeds (view_of s)) next (both_right lone short h);
      }

  fits_gap_lem : Gap speeds ts s → fits_gap speeds (timing speeds ts) (view_of s) ≡ true
  fits_gap_lem g =
      both_true (closed_lone (timing speeds ts) s s.task g.others)
      (le-leb (running_time speeds (view_of s)) (next_arrival (timing speeds ts) s.clock) g.time)

  pace_tested : pick ahead_test true (fits_gap speeds (timing speeds ts) (view_of s)) ≡ true → Ahead speeds ts s ⊎ Gap speeds ts s
  pace_tested =
      elim (tested ahead_test)
      as (λ b _. ahead_test ≡ b → pick b true (fits_gap speeds (timing speeds ts) (view_of s)) ≡ true → Ahead speeds ts s ⊎ Gap speeds ts s)
      [ passed ↦ λ e h. inl (ahead_all e) | failed ↦ λ e h. inr (gap_fits h) ]
      refl

  tested_pace : Ahead speeds ts s ⊎ Gap speeds ts s → pick ahead_test true (fits_gap speeds (timing speeds ts) (view_of s)) ≡ true
  tested_pace (inl a) = ap (λ (b : Bool). pick b true (fits_gap speeds (timing speeds ts) (view_of s))) (all_ahead a)
  tested_pace (inr g) = either_second ahead_test (fits_gap_lem g)

-- a sound state's plan is accepted, and the state is fine
pub sound_fine :
    (speeds : List ℕ) (s : State) →
    state_sound speeds s ≡ true →
    FineList speeds (length (plan_in s)) (plan_in s) × Fine speeds (plan_in s) s
sound_fine speeds s h =
    let ts : List Task = plan_in s in
    let a : Bool = eqb (first_no (judging speeds (length s.entries) ts)) 0 in
    let b : Bool = every (entry_sound (nominal_speed speeds ts)) s.entries in
    let c : Bool = both b (total_sound s) in
    let d : Bool = order_sound speeds (timing speeds ts) (nominal speeds ts) (view_of s) (open_jobs (timing speeds ts) (view_of s)) in
    let e : Bool = pick (every (entry_ahead (nominal_speed speeds ts)) s.entries) true (fits_gap speeds (timing speeds ts) (view_of s)) in
    let l : both c (both d e) ≡ true = both_right a (both c (both d e)) h in
    let o : both d e ≡ true = both_right c (both d e) l in
    let n : c ≡ true = both_left c (both d e) l in
    let entry : (i : ℕ) → i < length ts → FineEntry (nominal_speed speeds ts) (get_or s.entries i no_entry) =
    λ i q. fine_entry (nominal_speed speeds ts) (get_or s.entries i no_entry)
    (every_at (entry_sound (nominal_speed speeds ts)) s.entries i no_entry (both_left b (total_sound s) n) (omega (arith, length-plan_in s))) in (
      subst (λ (n : ℕ). FineList speeds n ts) (sym (length-plan_in s))
          (fine_list speeds (length s.entries) ts (eqb-true (first_no (judging speeds (length s.entries) ts)) 0 (both_left a (both c (both d e)) h))),
      record {
        entries = record {
          plan = refl;
          left = λ i q. subst (λ (t : Task). Within (rest_of s i) (whole t)) (sym (plan_in_at s i)) (entry i q).left;
          closed = λ i q. (entry i q).closed;
          remaining = λ i q. subst (λ (t : Task). remaining_of s i ≤ task_time (nominal_speed speeds ts) t) (sym (plan_in_at s i)) (entry i q).remaining;
          total = eqb-true s.total (queued_in s.entries) (both_right b (total_sound s) n);
        };
        order = both_left d e o;
        pace = pace_tested speeds ts s (sym (length-plan_in s)) (both_right d e o);
      },
    )

-- and a fine state of an accepted plan is sound
pub fine_sound :
    (speeds : List ℕ) (ts : List Task) (s : State) →
    FineList speeds (length ts) ts →
    Fine speeds ts s →
    state_sound speeds s ≡ true
fine_sound speeds ts s l f =
    subst (λ (us : List Task). FineList speeds (length us) us → Fine speeds us s → state_sound speeds s ≡ true) f.entries.plan own l f
  where
    own : FineList speeds (length (plan_in s)) (plan_in s) → Fine speeds (plan_in s) s → state_sound speeds s ≡ true
    own l f =
        let v : ℕ = nominal_speed speeds (plan_in s) in
        let m : length (plan_in s) ≡ length s.entries = length-plan_in s in
        both_true
        (eq-eqb (first_no (judging speeds (length s.entries) (plan_in s))) 0
        (list_yes speeds (length s.entries) (plan_in s) (subst (λ (n : ℕ). FineList speeds n (plan_in s)) m l)))
        (both_true
        (both_true
        (at_every (entry_sound v) s.entries no_entry
        (λ i q. entry_sound_lem v (get_or s.entries i no_entry)
        (record {
          left = subst (λ (t : Task). Within (rest_of s i) (whole t)) (plan_in_at s i) (f.entries.left i (omega arith));
          closed = f.entries.closed i (omega arith);
          remaining = subst (λ (t : Task). remaining_of s i ≤ task_time v t) (plan_in_at s i) (f.entries.remaining i (omega arith));
        })))
        (eq-eqb s.total (queued_in s.entries) f.entries.total))
        (both_true f.order (tested_pace speeds (plan_in s) s (sym m) f.pace)))

-- the time that a pass may take of the running job
time_most : (finished : Bool) (d t : ℕ) → pick finished (leb d t) (ltb d t) ≡ true → d ≤ t
time_most true d t h = leb-true d t h
time_most false d t h = omega (arith, leb-true (suc d) t h)

time_below : (finished : Bool) (d t : ℕ) → pick finished (leb d t) (ltb d t) ≡ true → finished ≡ false → d < t
time_below finished d t h e = leb-true (suc d) t (subst (λ (b : Bool). pick b (leb d t) (ltb d t) ≡ true) e h)

time_test : (finished : Bool) (d t : ℕ) → d ≤ t → (finished ≡ false → d < t) → pick finished (leb d t) (ltb d t) ≡ true
time_test true d t h k = le-leb d t h
time_test false d t h k = le-leb (suc d) t (k refl)

module _ (speeds : List ℕ) (s : State) (d : ℕ) (finished : Bool) where
  -- the time test of a running job
  abbrev timely : Bool
  timely = pick finished (leb d (running_time speeds (view_of s))) (ltb d (running_time speeds (view_of s)))

  -- a pass that the questions let through is accepted
  pub accepted : first_no (step_questions speeds (timing speeds (plan_in s)) (view_of s) d finished) ≡ 0 → Accepted speeds (timing speeds (plan_in s)) s d finished
  accepted h =
      let next : ℕ = next_arrival (timing speeds (plan_in s)) s.clock in
      let a : Yes (step_questions speeds (timing speeds (plan_in s)) (view_of s) d finished) = all_yes (step_questions speeds (timing speeds (plan_in s)) (view_of s) d finished) refl h in
      record {
        some = leb-true 1 d a.0;
        within = leb-true d next a.1.0;
        runs = if_so finished (running (view_of s)) a.1.1.0;
        time = λ r. time_most finished d (running_time speeds (view_of s)) (if_so (running (view_of s)) timely a.1.1.1.0 r);
        unfinished = λ r. time_below finished d (running_time speeds (view_of s)) (if_so (running (view_of s)) timely a.1.1.1.0 r);
      }

  -- and the questions let an accepted pass through
  pub questions_yes : Accepted speeds (timing speeds (plan_in s)) s d finished → first_no (step_questions speeds (timing speeds (plan_in s)) (view_of s) d finished) ≡ 0
  questions_yes f =
      let next : ℕ = next_arrival (timing speeds (plan_in s)) s.clock in
      yes_all (step_questions speeds (timing speeds (plan_in s)) (view_of s) d finished) (
        le-leb 1 d f.some,
        (
          le-leb d next f.within,
          (
            only_if finished (running (view_of s)) f.runs,
            (
              only_if (running (view_of s)) timely (λ r. time_test finished d (running_time speeds (view_of s)) (f.time r) (f.unfinished r)),
              tt,
            ),
          ),
        ),
      )

  -- question 15 stands by itself: the clock that the call has room for
  abbrev then_clock : List Question
  then_clock = ask 15 (in_time (s.clock + d)) ∷ []

  pub pass_accepted :
      first_no (pass_questions speeds (timing speeds (plan_in s)) (view_of s) d finished) ≡ 0 →
      Accepted speeds (timing speeds (plan_in s)) s d finished × (s.clock + d ≤ largest_clock)
  pass_accepted h =
      let asked : List Question = step_questions speeds (timing speeds (plan_in s)) (view_of s) d finished in (
        accepted (yes_of asked then_clock h),
        leb-true (s.clock + d) largest_clock (all_yes then_clock refl (yes_after asked then_clock refl h)).0,
      )

  pub pass_yes :
      Accepted speeds (timing speeds (plan_in s)) s d finished →
      s.clock + d ≤ largest_clock →
      first_no (pass_questions speeds (timing speeds (plan_in s)) (view_of s) d finished) ≡ 0
  pass_yes f late =
      yes_before (step_questions speeds (timing speeds (plan_in s)) (view_of s) d finished) then_clock refl (questions_yes f)
      ∙ ask_yes 15 (le-leb (s.clock + d) largest_clock late) refl

-- a block's state, where it is sound at a table of speeds
module _ (speeds bytes : List ℕ) (h : sound_at speeds bytes ≡ true) where
  abbrev timed : Bool
  timed = both (in_time (decode bytes).clock) (state_sound speeds (decode bytes))

  pub sound_state : state_sound speeds (decode bytes) ≡ true
  sound_state = both_right (in_time (decode bytes).clock) (state_sound speeds (decode bytes)) (both_right (laid_out bytes) timed h)

  pub sound_clock : (decode bytes).clock ≤ largest_clock
  sound_clock =
      leb-true (decode bytes).clock largest_clock
      (both_left (in_time (decode bytes).clock) (state_sound speeds (decode bytes)) (both_right (laid_out bytes) timed h))

-- a sound block: its own table may be loaded, and it is sound at it
module _ (bytes : List ℕ) (h : sound bytes ≡ true) where
  abbrev held : List ℕ
  held = (decode bytes).speeds

  pub sound_table : FineTable held
  sound_table = fine_table held (both_left (table_good held) (sound_at held bytes) h)

  pub sound_own : sound_at held bytes ≡ true
  sound_own = both_right (table_good held) (sound_at held bytes) h

-- a start that no question refuses: its level block and its plan are accepted, and there is room
pub record Starts (levels block pairs : List ℕ) (room : ℕ) : Type 0 where
  pub table : FineTable (speeds_in levels)
  pub good : FineList (speeds_in levels) (length (tasks_in block)) (tasks_in block)
  pub paired : pairs_good (tasks_in block) pairs ≡ true
  pub long : state_length ≤ room

pub start_facts : (levels block pairs : List ℕ) (room : ℕ) → first_no (starting levels block pairs room) ≡ 0 → Starts levels block pairs room
start_facts levels block pairs room h =
    let speeds : List ℕ = speeds_in levels in
    let then_room : List Question = room_question state_length room ∷ [] in
    let then_pairs : List Question = pairs_question (tasks_in block) pairs ∷ [] in
    let then-plan : List Question = paired_reading speeds block pairs ++ then_room in
    let all : first_no then-plan ≡ 0 = yes_after (loading levels) then-plan refl h in
    let plan : first_no (paired_reading speeds block pairs) ≡ 0 = yes_of (paired_reading speeds block pairs) then_room all in
    record {
      table = loaded_table levels (yes_of (loading levels) then-plan h);
      good = block_list speeds block (fine_block speeds block (yes_of (reading speeds block) then_pairs plan));
      paired = (all_yes then_pairs refl (yes_after (reading speeds block) then_pairs refl plan)).0;
      long = leb-true state_length room (all_yes then_room refl (yes_after (paired_reading speeds block pairs) then_room refl all)).0;
    }

-- an order's task and level fit a byte each
pub fine_small :
    (speeds : List ℕ) (ts : List Task) (s : State) →
    FineList speeds (length ts) ts →
    length speeds ≤ 16 →
    Fine speeds ts s →
    (s.task < 256) × (s.level < 256)
fine_small speeds ts s l few f =
    elim (order_facts speeds (timing speeds ts) (nominal speeds ts) s f.order) [
      | idles t h none ↦ (omega arith, omega arith)
      | runs r ↦ (
        omega (arith, r.below, l.count_high),
        omega (
          arith,
          r.level,
          l.tasks.admitted,
          fine_floor f.entries s.task,
          floor_at (length speeds) ts s.task l.tasks.floors r.below,
        ),
      )
    ]

-- a table that may be loaded fits the block
pub fine_stored : {speeds : List ℕ} → FineTable speeds → StorableTable speeds
fine_stored t = record { few = t.few; each = λ k h. omega (arith, t.most k h) }

-- so do the entries of a fine state
pub entries_storable :
    (speeds : List ℕ) (ts : List Task) (s : State) →
    FineList speeds (length ts) ts →
    Rising speeds →
    length speeds ≤ 16 →
    FineEntries speeds ts s →
    (i : ℕ) →
    i < length s.entries →
    StorableEntry (get_or s.entries i no_entry)
entries_storable speeds ts s l rising few f i h =
    let k : i < length ts = omega (arith, fine_length f) in
    let same : get_or ts i no_task ≡ task_of (get_or s.entries i no_entry) =
    ap (λ (us : List Task). get_or us i no_task) (sym f.plan) ∙ plan_in_at s i in
    let r : InRange (task_of (get_or s.entries i no_entry)) = subst InRange same (task_range speeds ts l rising i k) in
    let left : Within (rest_of s i) (whole (task_of (get_or s.entries i no_entry))) =
    subst (λ (t : Task). Within (rest_of s i) (whole t)) same (f.left i k) in
    record {
      period = omega (arith, r.period_high);
      floor = omega (arith, few, fine_floor f i, floor_at (length speeds) ts i l.tasks.floors k);
      worst = omega (arith, r.worst_high);
      work = omega (arith, r.worst_high, left.work);
      remaining = omega (arith, f.remaining i k, allotment_short speeds ts l rising i k);
      fixed = omega (arith, r.fixed_high);
      unspent = omega (arith, r.fixed_high, left.fixed);
    }

-- and so does its total
pub total_storable :
    (speeds : List ℕ) (ts : List Task) (s : State) →
    FineList speeds (length ts) ts →
    Rising speeds →
    length speeds ≤ 16 →
    FineEntries speeds ts s →
    s.total < 256 ^ width_of end_fields total_field
total_storable speeds ts s l rising few f =
    omega (
      arith,
      f.total,
      fine_length f,
      l.count_high,
      sum_of_most (λ (e : Entry). e.remaining) s.entries 65535 no_entry
          (λ i h. omega (arith, (entries_storable speeds ts s l rising few f i h).remaining)),
    )

-- a fine state whose clock is in range fits its block, with a table that does
pub fine_storable :
    (speeds : List ℕ) (ts : List Task) (s : State) →
    FineList speeds (length ts) ts →
    Rising speeds →
    length speeds ≤ 16 →
    Fine speeds ts s →
    s.clock ≤ largest_clock →
    StorableTable s.speeds →
    Storable s
fine_storable speeds ts s l rising few f late table =
    let n : length s.entries ≡ length ts = fine_length f.entries in
    let o = fine_small speeds ts s l few f in
    record {
      clock = omega (arith, late);
      task = o.0;
      level = o.1;
      count = omega (arith, l.count_high);
      entries = entries_storable speeds ts s l rising few f.entries;
      table = table;
      total = total_storable speeds ts s l rising few f.entries;
    }
