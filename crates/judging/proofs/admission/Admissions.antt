-- Whether a plan is admitted: what each loop has made so far, and what follows once the questions 6 and 24 are answered.
-- Assumes nothing.
use Prim.Native.Nat.{ℕ, zero, suc, ◌+◌, ◌*◌, ◌/◌, ◌<◌, ◌≤◌}
use mathlib.Core.Path.{◌≡◌, refl, sym, subst, ap, ap₂, ◌∙◌}
use mathlib.Core.Bool.{Bool, true, false}
use mathlib.Core.List.{List, [], ◌∷◌}
use native.Mathlib.Omega.{arith}
use native.Mathlib.Numerals.{add-one}
use borrow.Author.Tests.{le-leb, lt-leb}
use native.Mathlib.Nat.{mul-le-mul, div-le_self}
use lib.Dec.{leb}
use lib.ListN.{length, get_or}
use Rattle.arith.specs.Arrays.{padded}
use Rattle.arith.specs.Choice.{first}
use Rattle.arith.specs.Ranges.{list_to}
use Rattle.arith.specs.Sum.{sum_to}
use Rattle.arith.specs.Asking.{Question, first_no}
use Rattle.plan.specs.declared.Task.{Task}
use Rattle.plan.specs.declared.Plan.{Plan}
use Rattle.plan.specs.Answers.{Verdict, answered}
use Rattle.plan.specs.Counted.{refused}
use Rattle.plan.specs.Times.{task_time}
use Rattle.plan.specs.Levels.{Rising, hyperperiod, demand_within, speed_of, nominal, admits}
use Rattle.plan.specs.Blocks.{no_task, tasks_of}
use Rattle.plan.specs.Questions.{range_question, floor_question, span_question, level_question, task_questions}
use Rattle.arith.proofs.ArrayLaws.{value_at}
use Rattle.arith.proofs.QuestionLaws.{no_before, Yes, all_yes}
use Rattle.arith.proofs.Searches.{first_found, first_next, first_none, first_weaker}
use Rattle.arith.proofs.Sums.{sum_to_eq, sum_of_taken}
use Rattle.plan.proofs.Held.{Ranged, listed, task_at_lem}
use Rattle.plan.proofs.LevelLaws.{admits_covers}
use Rattle.plan.proofs.TimeLaws.{task_short}
use Rattle.levels.specs.Code.{loaded, Table}
use Rattle.levels.proofs.Tables.{levels_are, speed_is}

-- how many jobs task i has within a span, and the time that so many of its jobs take at a speed
abbrev pub jobs_in : ℕ → Plan → ℕ → ℕ
jobs_in span p i = span / (get_or p.tasks i no_task).period

abbrev pub jobs_time : ℕ → Plan → List ℕ → ℕ → ℕ
jobs_time speed p jobs i = task_time speed (get_or p.tasks i no_task) * get_or jobs i 0

-- what a demand is asked with
pub record Asked (p : Plan) (jobs : List ℕ) (speed : ℕ) : Type 0 where
  pub plan : Ranged p
  pub positive : 0 < speed
  pub few : (i : ℕ) → i < p.count → get_or jobs i 0 ≤ 1000000

-- the loop that sums it up
pub record Summed (p : Plan) (jobs : List ℕ) (speed total i : ℕ) : Type 0 where
  pub within : i ≤ p.count
  pub sum : total ≡ sum_to i (jobs_time speed p jobs)
  pub small : total ≤ 1048830000000 * i

-- a turn of it
pub record Added (p : Plan) (jobs : List ℕ) (speed i ticks : ℕ) : Type 0 where
  pub asked : Asked p jobs speed
  pub below : i < p.count
  pub needed : ticks ≡ task_time speed (get_or p.tasks i no_task)

module _ {p : Plan} {jobs : List ℕ} {speed i ticks : ℕ} (a : Added p jobs speed i ticks) where
  pub added_small : ticks * get_or jobs i 0 ≤ 1048830000000
  added_small =
      let t : Task = get_or p.tasks i no_task in
      let short : ticks ≤ 1048830 = omega (arith, a.needed, task_short speed t a.asked.positive (task_at_lem a.asked.plan i a.below)) in
      mul-le-mul short (a.asked.few i a.below)

  pub summed_more : {total : ℕ} → Summed p jobs speed total i → Summed p jobs speed (total + ticks * get_or jobs i 0) (i + 1)
  summed_more at =
      record {
        within = omega arith;
        sum = rw add-one (ap₂ (λ (y z : ℕ). y + z) at.sum (ap (λ (x : ℕ). x * get_or jobs i 0) a.needed));
        small = omega (arith, added_small);
      }

-- a search for the lowest level whose speed passes a test: the level that is tried
pub record Trying (test : ℕ → Bool) (held : List ℕ) (levels level : ℕ) : Type 0 where
  pub table : Table held levels
  pub low : level ≤ first test (loaded held levels)
  pub below : level < levels

module _ {test : ℕ → Bool} {held : List ℕ} {levels level : ℕ} (at : Trying test held levels level) where
  told_at : {b : Bool} → test (get_or held level 0) ≡ b → test (speed_of (loaded held levels) level) ≡ b
  told_at e = ap test (sym (speed_is at.table level at.below)) ∙ e

  pub level_found : test (get_or held level 0) ≡ true → level ≡ first test (loaded held levels)
  level_found e = first_found test (loaded held levels) level 0 at.low (omega (arith, levels_are at.table)) (told_at e)

  pub level_next : test (get_or held level 0) ≡ false → level + 1 ≤ first test (loaded held levels)
  level_next e = first_next test (loaded held levels) level 0 at.low (omega (arith, levels_are at.table)) (told_at e)

-- none of them passes: what is answered is their count
pub level_none :
    {held : List ℕ} {levels : ℕ} (t : Table held levels) (test : ℕ → Bool) (level : ℕ) →
    level ≤ first test (loaded held levels) →
    levels ≤ level →
    levels ≡ first test (loaded held levels)
level_none {held} {levels} t test level low past =
    first_none test (loaded held levels) levels (omega (arith, low, past)) (omega (arith, levels_are t))

-- a speed that does so much work within a span
abbrev pub does : ℕ → ℕ → ℕ → Bool
does work span speed = leb work (span * speed)

-- the jobs of each task within the hyperperiod, counted
pub record Counted (p : Plan) (span : ℕ) (jobs : List ℕ) : Type 0 where
  pub plan : Ranged p
  pub span_is : span ≡ hyperperiod (tasks_of p)
  pub small : span ≤ 1000000
  pub jobs_are : jobs ≡ padded 16 0 (list_to p.count (jobs_in span p))

module _ {p : Plan} {span : ℕ} {jobs : List ℕ} (c : Counted p span jobs) where
  counted_at : (i : ℕ) → i < p.count → get_or jobs i 0 ≡ jobs_in span p i
  counted_at i h =
      ap (λ (l : List ℕ). get_or l i 0) c.jobs_are ∙ value_at 16 0 p.count (jobs_in span p) i h

  pub counted_few : (i : ℕ) → i < p.count → get_or jobs i 0 ≤ 1000000
  counted_few i h = omega (arith, counted_at i h, div-le_self span (get_or p.tasks i no_task).period)

  -- the demand of them all at a speed: the speed admits the tasks, or it does not
  module _ (speed : ℕ) {total : ℕ} (e : total ≡ sum_to p.count (jobs_time speed p jobs)) where
    pub demand_all : total ≡ demand_within span speed (tasks_of p)
    demand_all =
        let time : ℕ → ℕ = λ i. task_time speed (get_or p.tasks i no_task) in
        e
        ∙ sum_to_eq p.count (jobs_time speed p jobs) (λ i. time i * jobs_in span p i) (λ i h. ap (λ (n : ℕ). time i * n) (counted_at i h))
        ∙ sum_of_taken (λ (t : Task). task_time speed t * (span / t.period)) p.tasks no_task p.count (listed c.plan.held)

    compared : leb total span ≡ admits (tasks_of p) speed
    compared =
        ap (λ (x : ℕ). leb x span) demand_all
        ∙ ap (λ (x : ℕ). leb (demand_within x speed (tasks_of p)) x) c.span_is

    pub admitted : total ≤ span → admits (tasks_of p) speed ≡ true
    admitted le = sym compared ∙ le-leb total span le

    pub not_admitted : span < total → admits (tasks_of p) speed ≡ false
    not_admitted lt = sym compared ∙ lt-leb total span lt

  -- a level that is too slow for the plain work does not admit
  pub nominal_from :
      {speeds : List ℕ} {work level : ℕ} →
      Rising speeds →
      work ≡ sum_to p.count (jobs_time 1 p jobs) →
      level ≡ first (does work span) speeds →
      level ≤ nominal speeds (tasks_of p)
  nominal_from {speeds} {work} rising e l =
      subst (λ (x : ℕ). x ≤ nominal speeds (tasks_of p)) (sym l)
      (first_weaker (admits (tasks_of p)) (does work span) speeds 0 covers)
    where
      covers : (k : ℕ) → k < length speeds → admits (tasks_of p) (get_or speeds k 0) ≡ true → does work span (get_or speeds k 0) ≡ true
      covers k h a =
          let speed : ℕ = get_or speeds k 0 in
          le-leb work (span * speed) (admits_covers (tasks_of p) span work speed (rising.positive k h) c.span_is (demand_all 1 e) a)

-- the verdict, by the first no of the questions 6, 24, 7 and 8
abbrev pub verdict_of : List ℕ → List Task → Verdict
verdict_of speeds ts = answered (first_no (task_questions speeds ts)) speeds ts

module _ (speeds : List ℕ) (ts : List Task) where
  told : {n : ℕ} → first_no (task_questions speeds ts) ≡ n → answered n speeds ts ≡ verdict_of speeds ts
  told e = sym (ap (λ (n : ℕ). answered n speeds ts) e)

  -- 6 and 24, which are asked in one walk
  abbrev pub ranged : List Question
  ranged = range_question ts ∷ floor_question speeds ts ∷ []

  pub refused_ranges : (n : ℕ) → (n ≡ 0 → ⊥) → n ≡ first_no ranged → refused n ≡ verdict_of speeds ts
  refused_ranges zero some e = absurd (some refl)
  refused_ranges (suc n) some e =
      told {n = suc n} (no_before ranged (span_question ts ∷ level_question speeds ts ∷ []) (suc n) (omega arith) (sym e))

  pub ranged_yes : {n : ℕ} → n ≡ 0 → n ≡ first_no ranged → ((range_question ts).reply ≡ true) × ((floor_question speeds ts).reply ≡ true)
  ranged_yes z e =
      let yes : Yes ranged = all_yes ranged refl (sym e ∙ z) in
      (yes.0, yes.1.0)
