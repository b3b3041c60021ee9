-- What each step and each way out of testing a state block says of whether it is sound.
-- Assumes nothing.
use Prim.Native.Nat.{ℕ, zero, suc, ◌+◌, ◌-◌, ◌<◌, ◌≤◌}
use mathlib.Core.Path.{◌≡◌, refl, sym, subst, ap, ap₂, ◌∙◌}
use mathlib.Core.Bool.{Bool, true, false, true≢false, not}
use mathlib.Core.List.{List}
use native.Mathlib.Omega.{arith}
use borrow.Author.Tests.{le-leb, eq-eqb, ne_eqb}
use lib.Dec.{leb, eqb}
use lib.ListN.{length, get_or, set}
use lib.Seq.{take_all}
use Rattle.arith.specs.Choice.{pick, both, every}
use Rattle.arith.specs.Ranges.{least_to}
use Rattle.plan.specs.declared.Task.{Task}
use Rattle.plan.specs.declared.Plan.{Plan}
use Rattle.plan.proofs.JudgedLaws.{level_told}
use Rattle.plan.specs.Answers.{Verdict, accepted_with, answered}
use Rattle.plan.specs.Counted.{refused}
use Rattle.plan.specs.Blocks.{no_task, tasks_of, plan_of}
use Rattle.plan.specs.Times.{time_of, no_rest}
use Rattle.plan.specs.Levels.{Rising, speed_of, nominal}
use Rattle.plan.specs.Questions.{task_questions, judging}
use Rattle.arith.specs.Asking.{first_no}
use Rattle.plan.proofs.Facts.{InRange, range_at, fine_tasks}
use Rattle.plan.proofs.RoundTrip.{tasks_of-plan_of}
use Rattle.plan.proofs.TimeLaws.{time_none}
use Rattle.arith.proofs.ArrayLaws.{value_at}
use Rattle.judging.proofs.verdicts.Judgements.{Filled, filled_more, filled_all, count_low, count_high, count_good}
use Rattle.arith.proofs.Tests.{both_false, both_yes, both_left}
use Rattle.arith.proofs.ListLaws.{every_at, at_every}
use Rattle.soundness.specs.declared.Tested.{Tested}
use Rattle.reclaiming.specs.declared.Entry.{Entry}
use Rattle.reclaiming.specs.Allotments.{timing}
use Rattle.reclaiming.specs.Orders.{next_arrival, is_lone, open_jobs, running_time}
use Rattle.reclaiming.specs.Passes.{largest_clock, in_time}
use Rattle.reclaiming.specs.StateBlock.{State, no_entry, floor_of, work_of, remaining_of, rest_of, task_of, plan_in, decode, laid_out, places, state_count}
use Rattle.reclaiming.specs.States.{view_of}
use Rattle.reclaiming.specs.Questions.{entry_sound, entry_ahead, order_sound, fits_gap, total_sound, state_sound, sound_at}
use Rattle.state.specs.Code.{Holds, entry_in, timing_in}
use Rattle.urgency.specs.Code.{Keyed, no_key, deadline_in, latest_key, keys_in}
use Rattle.orders.specs.declared.Choice.{Choice}
use Rattle.orders.specs.Code.{choice_of, Runnable}
use Rattle.orders.specs.Lone.{other_in}
use Rattle.orders.proofs.lone.LoneLaws.{lone_is}
use Rattle.orders.proofs.OrderLaws.{Timed, choose_next, choose_when}
use Rattle.soundness.specs.declared.entries.Entries.{Entries}
use Rattle.soundness.specs.declared.entries.Entries.TheVariants.{NotSound, Behind, Ahead}
use Rattle.soundness.specs.SoundEntries.{entries_by, entries_tested}
use Rattle.soundness.specs.SoundOrder.{order_in}
use Rattle.soundness.specs.Code.{Good, timed_sound, TestedBlock}
use Rattle.levels.specs.Code.{loaded, Table}
use Rattle.levels.proofs.Tables.{levels_are, speed_is, speed_positive, speed_most}
use Rattle.soundness.proofs.SoundFacts.{floor_most, ordered_runnable, sound_holds, sound_plan_yes}
use Rattle.reclaiming.proofs.OrderFacts.{Ordered, idles, runs, order_facts}
use Rattle.reclaiming.proofs.Soundness.{FineEntry, fine_entry, length-plan_in, sound_clock}
use Rattle.urgency.proofs.HeadLaws.{task_is, period_is}
use Rattle.urgency.proofs.OpenJobs.{timing_count}
use Rattle.state.proofs.BlockLaws.{count_in_lem}

-- what was found of the entries, as two tests
abbrev is_sound : Entries → Bool
is_sound NotSound = false
is_sound Behind = true
is_sound Ahead = true

abbrev is_ahead : Entries → Bool
is_ahead NotSound = false
is_ahead Behind = false
is_ahead Ahead = true

sound_by : (sound ahead : Bool) → is_sound (entries_by sound ahead) ≡ sound
sound_by true true = refl
sound_by true false = refl
sound_by false ahead = refl

ahead_by : (ahead : Bool) → is_ahead (entries_by true ahead) ≡ ahead
ahead_by true = refl
ahead_by false = refl

-- the plan in a block, of which the tasks below i are copied
pub record Copying (b : List ℕ) (count : ℕ) (p : Plan) (i : ℕ) : Type 0 where
  pub holds : Holds b
  pub same : count ≡ state_count b
  pub filled : Filled (plan_in (decode b)) count p i

module _ {b : List ℕ} {count : ℕ} {p : Plan} {i : ℕ} (now : Copying b count p i) where
  all : length (plan_in (decode b)) ≡ count
  all = timing_count b ∙ sym now.same

  pub copy_more :
      i < count →
      {t : Task} →
      t ≡ task_of (entry_in b i) →
      Copying b count (record { count = p.count; tasks = set p.tasks i t }) (i + 1)
  copy_more h {t} e =
      let few : state_count b ≤ places = now.holds.few in
      let same : t ≡ get_or (plan_in (decode b)) i no_task = e ∙ sym (task_is b i (omega (arith, now.same))) in
      record {
        holds = now.holds;
        same = now.same;
        filled = filled_more now.filled (omega (arith, all)) (omega (arith, now.same)) h same;
      }

  pub copy_all : count ≤ i → p ≡ plan_of (plan_in (decode b))
  copy_all h =
      filled_all now.filled (omega (arith, all)) h ∙ ap plan_of (take_all count (plan_in (decode b)) (omega (arith, all)))

-- a state, by each of the four things that are asked of it
both_not : (a b : Bool) → b ≡ false → both a b ≡ false
both_not a b h = ap (both a) h ∙ both_false a

module _ (speeds : List ℕ) (s : State) where
  -- the four tests
  abbrev plan_well : Bool
  plan_well = eqb (first_no (judging speeds (length s.entries) (plan_in s))) 0

  abbrev entries_well : Bool
  entries_well = both (every (entry_sound (speed_of speeds (nominal speeds (plan_in s)))) s.entries) (total_sound s)

  abbrev order_well : Bool
  order_well = order_sound speeds (timing speeds (plan_in s)) (nominal speeds (plan_in s)) (view_of s) (open_jobs (timing speeds (plan_in s)) (view_of s))

  abbrev pace_well : Bool
  pace_well =
      pick (every (entry_ahead (speed_of speeds (nominal speeds (plan_in s)))) s.entries) true (fits_gap speeds (timing speeds (plan_in s)) (view_of s))

  plan_not : 0 < first_no (judging speeds (length s.entries) (plan_in s)) → state_sound speeds s ≡ false
  plan_not h =
      ap (λ (b : Bool). both b (both entries_well (both order_well pace_well)))
      (ne_eqb (first_no (judging speeds (length s.entries) (plan_in s))) 0 (λ e. omega arith))

  entries_not : entries_well ≡ false → state_sound speeds s ≡ false
  entries_not h = both_not plan_well (both entries_well (both order_well pace_well)) (ap (λ (b : Bool). both b (both order_well pace_well)) h)

  -- where the plan and the entries are well, the order and how it keeps up decide
  module _ (p : first_no (judging speeds (length s.entries) (plan_in s)) ≡ 0) (e : entries_well ≡ true) where
    rest_decides : state_sound speeds s ≡ both order_well pace_well
    rest_decides =
        ap (λ (b : Bool). both b (both entries_well (both order_well pace_well))) (eq-eqb (first_no (judging speeds (length s.entries) (plan_in s))) 0 p)
        ∙ ap (λ (b : Bool). both b (both order_well pace_well)) e

    order_not : order_well ≡ false → state_sound speeds s ≡ false
    order_not o = rest_decides ∙ ap (λ (b : Bool). both b pace_well) o

    pace_decides : order_well ≡ true → state_sound speeds s ≡ pace_well
    pace_decides o = rest_decides ∙ ap (λ (b : Bool). both b pace_well) o

-- a block whose plan is admitted
module _ (speeds b : List ℕ) (yes_all : first_no (task_questions speeds (plan_in (decode b))) ≡ 0) where
  periods_in : (i : ℕ) → i < state_count b → (1 ≤ (entry_in b i).period) × ((entry_in b i).period ≤ 65535)
  periods_in i h =
      let r : InRange (task_of (entry_in b i)) =
      subst InRange (task_is b i h)
      (range_at (plan_in (decode b)) i (fine_tasks speeds (plan_in (decode b)) yes_all).ranges (omega (arith, timing_count b))) in
      (r.period_low, r.period_high)

  pub nominal_below : (level : ℕ) → level ≡ nominal speeds (plan_in (decode b)) → level < length speeds
  nominal_below level n = subst (λ (x : ℕ). x < length speeds) (sym n) (fine_tasks speeds (plan_in (decode b)) yes_all).admitted

  judging_yes : state_count b ≤ places → 1 ≤ state_count b → first_no (judging speeds (length (decode b).entries) (plan_in (decode b))) ≡ 0
  judging_yes few some =
      count_good speeds (plan_in (decode b)) (length (decode b).entries) (omega (arith, count_in_lem b)) (omega (arith, count_in_lem b))
      ∙ yes_all

  -- the keys that are found are those of its latest jobs
  keyed_in : state_count b ≤ places → (decode b).clock ≤ largest_clock → Keyed (timing_in speeds b) (decode b).clock (keys_in b (state_count b) (decode b).clock)
  keyed_in few le = record {
    few = subst (λ (n : ℕ). n ≤ places) (sym (timing_count b)) few;
    low = λ i h. subst (λ (n : ℕ). 1 ≤ n) (sym (period_is b i (below i h))) (periods_in i (below i h)).0;
    high = λ i h. subst (λ (n : ℕ). n ≤ 65535) (sym (period_is b i (below i h))) (periods_in i (below i h)).1;
    in_range = le;
    each = λ i h. value_at places 0 (state_count b) (λ k. latest_key (decode b).clock (entry_in b k).period k) i (below i h)
        ∙ ap (λ (p : ℕ). latest_key (decode b).clock p i) (sym (period_is b i (below i h)));
  }
    where
      below : (i : ℕ) → i < (timing_in speeds b).count → i < state_count b
      below i h = subst (λ (n : ℕ). i < n) (timing_count b) h

-- a block of some tasks whose plan is admitted at a level, with its clock and the level's speed
pub record Admitted (held : List ℕ) (levels : ℕ) (b : List ℕ) (count clock level speed : ℕ) : Type 0 where
  pub table : Table held levels
  pub holds : Holds b
  pub same : count ≡ state_count b
  pub some : 1 ≤ count
  pub clock_is : clock ≡ (decode b).clock
  pub in_range : clock ≤ largest_clock
  pub yes_all : first_no (task_questions (loaded held levels) (plan_in (decode b))) ≡ 0
  pub level_is : level ≡ nominal (loaded held levels) (plan_in (decode b))
  pub speed_read : speed ≡ get_or held level 0

module _ {held : List ℕ} {levels : ℕ} {b : List ℕ} {count clock level speed : ℕ} (k : Admitted held levels b count clock level speed) where
  pub level_low : level < levels
  level_low = omega (arith, nominal_below (loaded held levels) b k.yes_all level k.level_is, levels_are k.table)

  pub admitted_speed : (0 < speed) × (speed ≤ 1000)
  admitted_speed =
      subst (λ (x : ℕ). (0 < x) × (x ≤ 1000)) (sym k.speed_read) (speed_positive k.table level level_low, speed_most k.table level level_low)

  pub admitted_floors : (i : ℕ) → i < count → floor_of (decode b) i < levels
  admitted_floors i h =
      subst (λ (n : ℕ). floor_of (decode b) i < n) (levels_are k.table)
      (floor_most (loaded held levels) (decode b) (fine_tasks (loaded held levels) (plan_in (decode b)) k.yes_all) i
      (omega (arith, k.same, count_in_lem b, length-plan_in (decode b))))

  pub admitted_periods : (i : ℕ) → i < count → 1 ≤ (entry_in b i).period
  admitted_periods i h = (periods_in (loaded held levels) b k.yes_all i (subst (λ (n : ℕ). i < n) k.same h)).0

  -- its keys
  module _ {keys : List ℕ} (e : keys ≡ keys_in b count clock) where
    keys_are : keys ≡ keys_in b (state_count b) (decode b).clock
    keys_are = e ∙ ap₂ (keys_in b) k.same k.clock_is

    pub admitted_keyed : Keyed (timing_in (loaded held levels) b) (decode b).clock keys
    admitted_keyed =
        subst (Keyed (timing_in (loaded held levels) b) (decode b).clock) (sym keys_are)
        (keyed_in (loaded held levels) b k.yes_all k.holds.few (subst (λ (n : ℕ). n ≤ largest_clock) k.clock_is k.in_range))

    -- and the ticks to the next arrival, which they tell
    timed : Timed (loaded held levels) b keys count clock
    timed = record {
      holds = k.holds;
      some = subst (λ (n : ℕ). 1 ≤ n) k.same k.some;
      keyed = admitted_keyed;
      same = k.same;
      clock_is = k.clock_is;
    }

    pub admitted_next : ((count ≤ places) × (1 ≤ count)) × ((i : ℕ) → i < count → (clock ≤ deadline_in (get_or keys i 0)) × (get_or keys i 0 < no_key))
    admitted_next = choose_next timed

    pub admitted_arrival :
        (next : ℕ) → next ≡ deadline_in (least_to count (λ i. get_or keys i 0)) - clock → next ≡ next_arrival (timing_in (loaded held levels) b) (decode b).clock
    admitted_arrival = choose_when timed

  -- it is tested by its entries, by its order, and by how it keeps up
  speed_nominal : speed ≡ speed_of (loaded held levels) (nominal (loaded held levels) (plan_in (decode b)))
  speed_nominal = k.speed_read ∙ speed_is k.table level level_low ∙ ap (speed_of (loaded held levels)) k.level_is

  pub admitted_entries : NotSound ≡ entries_tested speed (decode b) → state_sound (loaded held levels) (decode b) ≡ false
  admitted_entries e =
      entries_not (loaded held levels) (decode b)
      (ap (λ (v : ℕ). both (every (entry_sound v) (decode b).entries) (total_sound (decode b))) (sym speed_nominal)
      ∙ sym (ap is_sound e ∙ sound_by (both (every (entry_sound speed) (decode b).entries) (total_sound (decode b))) (every (entry_ahead speed) (decode b).entries)))

-- its entries and its total are sound, and it is known whether the entries are ahead
pub record Entered (held : List ℕ) (levels : ℕ) (b : List ℕ) (count clock level speed : ℕ) (ahead : Bool) : Type 0 where
  pub admitted : Admitted held levels b count clock level speed
  pub tests : entries_by true ahead ≡ entries_tested speed (decode b)

module _ {held : List ℕ} {levels : ℕ} {b : List ℕ} {count clock level speed : ℕ} {ahead : Bool} (k : Entered held levels b count clock level speed ahead) where
  abbrev table_speeds : List ℕ
  table_speeds = loaded held levels

  abbrev S : State
  S = decode b

  abbrev sounds : Bool
  sounds = both (every (entry_sound speed) S.entries) (total_sound S)

  abbrev aheads : Bool
  aheads = every (entry_ahead speed) S.entries

  entries_well_lem : sounds ≡ true
  entries_well_lem = sym (sym (sound_by true ahead) ∙ ap is_sound k.tests ∙ sound_by sounds aheads)

  ahead_is : ahead ≡ aheads
  ahead_is =
      sym (ahead_by ahead) ∙ ap is_ahead (k.tests ∙ ap (λ (t : Bool). entries_by t aheads) entries_well_lem) ∙ ahead_by aheads

  plan_well_lem : first_no (judging table_speeds (length S.entries) (plan_in S)) ≡ 0
  plan_well_lem =
      judging_yes table_speeds b k.admitted.yes_all k.admitted.holds.few (subst (λ (n : ℕ). 1 ≤ n) k.admitted.same k.admitted.some)

  nominal_well : entries_well table_speeds S ≡ true
  nominal_well = ap (λ (v : ℕ). both (every (entry_sound v) S.entries) (total_sound S)) (sym (speed_nominal k.admitted)) ∙ entries_well_lem

  order_is : order_in table_speeds b level ≡ order_well table_speeds S
  order_is = ap (order_in table_speeds b) k.admitted.level_is

  pub admitted_order : {o : Bool} → o ≡ order_in table_speeds b level → o ≡ false → state_sound table_speeds S ≡ false
  admitted_order e f = order_not table_speeds S plan_well_lem nominal_well (sym (e ∙ order_is) ∙ f)

  -- and its order is sound
  module _ {o : Bool} (e : o ≡ order_in table_speeds b level) (y : o ≡ true) where
    stands : Ordered table_speeds (timing_in table_speeds b) (nominal table_speeds (plan_in S)) S
    stands = order_facts table_speeds (timing_in table_speeds b) (nominal table_speeds (plan_in S)) S (sym (e ∙ order_is) ∙ y)

    pub admitted_runnable : Runnable levels S
    admitted_runnable =
        subst (λ (n : ℕ). Runnable n S) (levels_are k.admitted.table)
        (ordered_runnable table_speeds S (fine_tasks table_speeds (plan_in S) k.admitted.yes_all) stands)

    -- while idle every job is ahead, since none is open
    pub behind_runs : ahead ≡ false → S.task ≡ 255 → ⊥
    behind_runs f t = go stands
      where
        positive : 0 < speed
        positive = (admitted_speed k.admitted).0

        each_well : every (entry_sound speed) S.entries ≡ true
        each_well = both_left (every (entry_sound speed) S.entries) (total_sound S) entries_well_lem

        closed : (i : ℕ) → i < length S.entries → work_of S i ≡ 0 → entry_ahead speed (get_or S.entries i no_entry) ≡ true
        closed i h z =
            let entry : Entry = get_or S.entries i no_entry in
            let whole-entry : FineEntry speed entry = fine_entry speed entry (every_at (entry_sound speed) S.entries i no_entry each_well h) in
            let none : rest_of S i ≡ no_rest = λ x. record { fixed = whole-entry.closed z x; work = z x } in
            le-leb (time_of speed (rest_of S i)) (remaining_of S i) (omega (arith, ap (time_of speed) none, time_none speed positive))

        go : Ordered table_speeds (timing_in table_speeds b) (nominal table_speeds (plan_in S)) S → ⊥
        go (idles x l z) =
            true≢false
            (sym (at_every (entry_ahead speed) S.entries no_entry (λ i h. closed i h (z i (omega (arith, length-plan_in S))))) ∙ sym ahead_is ∙ f)
        go (runs r) = omega (arith, r.below, timing_count b, k.admitted.holds.few)

    module _ {p : Bool} (q : p ≡ pick ahead true (fits_gap table_speeds (timing_in table_speeds b) (view_of S))) where
      pace_is : p ≡ state_sound table_speeds S
      pace_is =
          q
          ∙ ap (λ (t : Bool). pick t true (fits_gap table_speeds (timing_in table_speeds b) (view_of S)))
          (ahead_is ∙ ap (λ (v : ℕ). every (entry_ahead v) S.entries) (speed_nominal k.admitted))
          ∙ sym (pace_decides table_speeds S plan_well_lem nominal_well (sym (e ∙ order_is) ∙ y))

      pub admitted_pace : p ≡ false → state_sound table_speeds S ≡ false
      admitted_pace f = sym pace_is ∙ f

      pub admitted_sound :
          p ≡ true →
          {keys : List ℕ} {next : ℕ} →
          keys ≡ keys_in b count clock →
          next ≡ next_arrival (timing_in table_speeds b) S.clock →
          TestedBlock table_speeds (state_sound table_speeds S) b (record { next = next; nominal = level; keys = keys })
      admitted_sound t m n = record { sound = sym pace_is ∙ t; next = n; nominal = k.admitted.level_is; keys = keys_are k.admitted m }

-- a job that runs, by the order that stands, and the next arrival
pub record Running (speeds b : List ℕ) (count next : ℕ) (c : Choice) : Type 0 where
  pub same : count ≡ state_count b
  pub arrival : next ≡ next_arrival (timing_in speeds b) (decode b).clock
  pub choice : c ≡ choice_of speeds (decode b)
  pub some : (decode b).task ≡ 255 → ⊥

module _ {speeds b : List ℕ} {count next : ℕ} {c : Choice} (k : Running speeds b count next c) {ahead : Bool} (behind : ahead ≡ false) where
  abbrev lone : Bool
  lone = is_lone (timing_in speeds b) (view_of (decode b)) (decode b).task

  abbrev gap : Bool
  gap = fits_gap speeds (timing_in speeds b) (view_of (decode b))

  -- only a gap can help a state that is behind
  gap_decides : {found : Bool} → found ≡ both lone (leb c.time next) → found ≡ pick ahead true gap
  gap_decides e =
      e
      ∙ ap₂ (λ (x n : ℕ). both lone (leb x n))
      (ap (λ (x : Choice). x.time) k.choice ∙ ap (λ (t : Bool). pick t 0 (running_time speeds (view_of (decode b)))) (ne_eqb (decode b).task 255 k.some))
      k.arrival
      ∙ sym (ap (λ (t : Bool). pick t true gap) behind)

  pub gap_alone : c.time ≤ next → {i : ℕ} → i ≡ c.task → {found : Bool} → found ≡ not (other_in b count i) → found ≡ pick ahead true gap
  gap_alone h {i} t e =
      gap_decides
      (e
      ∙ lone_is speeds b count i k.same
      ∙ ap (is_lone (timing_in speeds b) (view_of (decode b))) (t ∙ ap (λ (x : Choice). x.task) k.choice)
      ∙ sym (ap (both lone) (le-leb c.time next h) ∙ both_yes lone))

-- the number that a verdict is of
refused_number : (n k : ℕ) (v : Verdict) (speeds : List ℕ) (ts : List Task) → v ≡ answered n speeds ts → v ≡ refused k → 0 < n
refused_number zero k v speeds ts a r = let z : ◌≡◌ {A = ℕ} 0 1 = cc in absurd (omega arith)
refused_number (suc n) k v speeds ts a r = omega arith

admitted_number :
    (n level span : ℕ) (v : Verdict) (speeds : List ℕ) (ts : List Task) →
    v ≡ answered n speeds ts →
    v ≡ accepted_with level span →
    (n ≡ 0) × (level ≡ nominal speeds ts)
admitted_number zero level span v speeds ts a r = (refl, ap level_told (sym r ∙ a))
admitted_number (suc n) level span v speeds ts a r = let z : ◌≡◌ {A = ℕ} 0 1 = cc in absurd (omega arith)

-- a block of some tasks with its plan and the plan's verdict
pub record Judged (speeds b : List ℕ) (count : ℕ) (p : Plan) (v : Verdict) : Type 0 where
  pub holds : Holds b
  pub same : count ≡ state_count b
  pub some : 1 ≤ count
  pub plan : p ≡ plan_of (plan_in (decode b))
  pub verdict : v ≡ answered (first_no (task_questions speeds (tasks_of p))) speeds (tasks_of p)

module _ {speeds b : List ℕ} {count : ℕ} {p : Plan} {v : Verdict} (k : Judged speeds b count p v) where
  abbrev us : List Task
  us = plan_in (decode b)

  verdict_is : v ≡ answered (first_no (task_questions speeds us)) speeds us
  verdict_is =
      k.verdict
      ∙ ap (λ (l : List Task). answered (first_no (task_questions speeds l)) speeds l)
      (ap tasks_of k.plan ∙ tasks_of-plan_of us)

  pub plan_refused : {n : ℕ} → v ≡ refused n → timed_sound speeds (decode b) ≡ false
  plan_refused {n} e =
      let counted : length (decode b).entries ≡ state_count b = count_in_lem b in
      let some-no : 0 < first_no (task_questions speeds us) = refused_number (first_no (task_questions speeds us)) n v speeds us verdict_is e in
      let good : first_no (judging speeds (length (decode b).entries) us) ≡ first_no (task_questions speeds us) =
      count_good speeds us (length (decode b).entries) (omega (arith, k.same, k.some)) (omega (arith, k.holds.few)) in
      both_not (in_time (decode b).clock) (state_sound speeds (decode b)) (plan_not speeds (decode b) (subst (λ (m : ℕ). 0 < m) (sym good) some-no))

  pub plan_admitted : {level span : ℕ} → v ≡ accepted_with level span → (first_no (task_questions speeds us) ≡ 0) × (level ≡ nominal speeds us)
  plan_admitted {level} {span} e =
      admitted_number (first_no (task_questions speeds us)) level span v speeds us verdict_is e

-- a block, by each way out
module _ (speeds bytes : List ℕ) where
  count_not : first_no (judging speeds (length (decode bytes).entries) (plan_in (decode bytes))) ≡ 3 → sound_at speeds bytes ≡ false
  count_not e =
      both_not (laid_out bytes) (timed_sound speeds (decode bytes))
      (both_not (in_time (decode bytes).clock) (state_sound speeds (decode bytes)) (plan_not speeds (decode bytes) (omega arith)))

  pub count_none : state_count bytes < 1 → sound_at speeds bytes ≡ false
  count_none h =
      count_not (count_low speeds (plan_in (decode bytes)) (length (decode bytes).entries) (omega (arith, count_in_lem bytes)))

  pub count_above : places < state_count bytes → sound_at speeds bytes ≡ false
  count_above h =
      count_not (count_high speeds (plan_in (decode bytes)) (length (decode bytes).entries) (omega (arith, count_in_lem bytes)))

-- what a caller reads off the answer
pub tested_good :
    {speeds bytes : List ℕ} {t : Tested} → Rising speeds → TestedBlock speeds (sound_at speeds bytes) bytes t → Good speeds bytes t.keys t.nominal
tested_good {speeds} {bytes} rising k =
    let holds : Holds bytes = sound_holds speeds rising bytes k.sound in
    record {
      sound = k.sound;
      holds = holds;
      keyed =
          subst (Keyed (timing_in speeds bytes) (decode bytes).clock) (sym k.keys)
          (keyed_in speeds bytes (sound_plan_yes speeds rising bytes k.sound) holds.few (sound_clock speeds bytes k.sound));
      nominal = k.nominal;
    }

pub tested_next :
    {speeds bytes : List ℕ} {found : Bool} {t : Tested} →
    TestedBlock speeds found bytes t → t.next ≡ next_arrival (timing_in speeds bytes) (decode bytes).clock
tested_next k = k.next
