-- Judging a plan: a plan filled from the front, and what each way out says of the questions.
-- Assumes nothing.
use Prim.Native.Nat.{ℕ, zero, suc, ◌+◌, ◌-◌, ◌<◌, ◌≤◌}
use mathlib.Core.Path.{◌≡◌, refl, sym, ap, ap₂, ◌∙◌}
use mathlib.Core.List.{List, [], ◌++◌}
use native.Mathlib.Omega.{arith}
use borrow.Author.Tests.{le-leb, lt-leb}
use lib.ListN.{length, get_or, take, drop, set, replicate}
use lib.Seq.{length-take-le}
use Rattle.std.proofs.lemmas.List.{drop-replicate}
use Rattle.arith.specs.Arrays.{padded}
use Rattle.arith.specs.Asking.{Question, first_no}
use Rattle.plan.specs.declared.Task.{Task}
use Rattle.plan.specs.declared.Plan.{Plan}
use Rattle.plan.specs.declared.Judged.{Judged}
use Rattle.plan.specs.Answers.{Verdict, accepted_with, judged_by, refused_with, answered}
use Rattle.plan.specs.Counted.{refused}
use Rattle.plan.specs.LevelBlocks.{loading, speeds_in}
use Rattle.plan.specs.Blocks.{no_task, plan_of, tasks_of}
use Rattle.plan.specs.Questions.{task_questions, judging}
use Rattle.arith.proofs.ArrayLaws.{taken_more}
use Rattle.arith.proofs.Tests.{both_false}
use Rattle.arith.proofs.QuestionLaws.{no_before, yes_before}
use Rattle.plan.proofs.AnswerLaws.{Refusal}
use Rattle.plan.proofs.Held.{Held, count_is}
use Rattle.levels.specs.Code.{loaded}
use Rattle.levels.proofs.Tables.{Loads}

-- the loop that fills a plan with a list's first count tasks
pub record Filled (l : List Task) (count : ℕ) (q : Plan) (i : ℕ) : Type 0 where
  pub within : i ≤ count
  pub counted : q.count ≡ count
  pub tasks : q.tasks ≡ padded 16 no_task (take i l)

module _ {l : List Task} {count : ℕ} {q : Plan} {i : ℕ} (at : Filled l count q i) (le : count ≤ length l) where
  pub filled_more :
      {t : Task} →
      count ≤ 16 →
      i < count →
      t ≡ get_or l i no_task →
      Filled l count (record { count = q.count; tasks = set q.tasks i t }) (i + 1)
  filled_more most h e =
      record {
        within = omega arith;
        counted = at.counted;
        tasks = taken_more 16 no_task l q.tasks i _ (omega arith) (omega arith) at.tasks e;
      }

  pub filled_all : count ≤ i → q ≡ plan_of (take count l)
  filled_all h =
      let e : i ≡ count = omega arith in
      let counts : q.count ≡ length (take count l) = at.counted ∙ sym (length-take-le count l le) in
      let tasks : q.tasks ≡ padded 16 no_task (take count l) = at.tasks ∙ ap (λ (n : ℕ). padded 16 no_task (take n l)) e in
      λ j. record { count = counts j; tasks = tasks j }

-- an empty plan's places, the first of which hold a plan's tasks now
pub cleared_is :
    {p q : Plan} {l : List Task} →
    Held p →
    q ≡ plan_of [] →
    l ≡ tasks_of p →
    ◌≡◌ {A = Plan} (record { count = p.count; tasks = l ++ drop p.count q.tasks }) (plan_of (tasks_of p))
cleared_is {p} {q} {l} held none e =
    let counts : p.count ≡ length (tasks_of p) = sym (count_is held) in
    let past : drop p.count q.tasks ≡ replicate (16 - length (tasks_of p)) no_task =
    ap (λ (x : Plan). drop p.count x.tasks) none
    ∙ drop-replicate p.count 16 no_task
    ∙ ap (λ (n : ℕ). replicate (16 - n) no_task) counts in
    let tasks : l ++ drop p.count q.tasks ≡ padded 16 no_task (tasks_of p) = ap₂ (λ (x y : List Task). x ++ y) e past in
    λ j. record { count = counts j; tasks = tasks j }

-- a refusal
pub refused_is : (n : ℕ) {q : Plan} → q ≡ plan_of [] → ◌≡◌ {A = Judged} (record { verdict = refused n; plan = q }) (refused_with n)
refused_is n e = λ i. record { verdict = refused n; plan = e i }

-- a verdict, and the plan beside it
module _ (speeds : List ℕ) (ts : List Task) {v : Verdict} {q : Plan} where
  pub beside_refused :
      (n : ℕ) {k : ℕ} →
      v ≡ answered n speeds ts →
      v ≡ refused k →
      q ≡ plan_of [] →
      ◌≡◌ {A = Judged} (record { verdict = v; plan = q }) (judged_by n speeds ts)
  beside_refused zero a r e = let z : ◌≡◌ {A = ℕ} 0 1 = cc in absurd (omega arith)
  beside_refused (suc n) a r e = λ i. record { verdict = a i; plan = e i }

  pub beside_admitted :
      (n : ℕ) {l h : ℕ} →
      v ≡ answered n speeds ts →
      v ≡ accepted_with l h →
      q ≡ plan_of ts →
      ◌≡◌ {A = Judged} (record { verdict = v; plan = q }) (judged_by n speeds ts)
  beside_admitted zero a r e = λ i. record { verdict = a i; plan = e i }
  beside_admitted (suc n) a r e = let z : ◌≡◌ {A = ℕ} 0 1 = cc in absurd (omega arith)

-- the count is out of its range, or in it
module _ (speeds : List ℕ) (ts : List Task) where
  pub count_low : (count : ℕ) → count < 1 → first_no (judging speeds count ts) ≡ 3
  count_low count h = simp (lt-leb 1 count h)

  pub count_high : (count : ℕ) → 16 < count → first_no (judging speeds count ts) ≡ 3
  count_high count h = simp (lt-leb count 16 h, both_false)

  pub count_good : (count : ℕ) → 1 ≤ count → count ≤ 16 → first_no (judging speeds count ts) ≡ first_no (task_questions speeds ts)
  count_good count a b = simp (le-leb 1 count a, le-leb count 16 b)

-- a refusal's number is all that is told, whatever the tasks are
pub refused_as :
    (speeds : List ℕ) (ts : List Task) {r : Judged} {number n : ℕ} →
    r ≡ refused_with n →
    0 < n →
    number ≡ n →
    r ≡ judged_by number speeds ts
refused_as speeds ts {n = zero} a h e = absurd (omega arith)
refused_as speeds ts {n = suc n} a h e = a ∙ sym (ap (λ (k : ℕ). judged_by k speeds ts) e)

-- an entry: what it asks over its levels comes after the questions put to the level block, and a refusal of that is all that is told
abbrev Entered : List ℕ → (List ℕ → List Question) → List Task → Judged → Type 0
Entered block rest ts r = r ≡ judged_by (first_no (loading block ++ rest (speeds_in block))) (speeds_in block) ts

module _ (block : List ℕ) (rest : List ℕ → List Question) (ts : List Task) {r : Judged} where
  pub entered_refused : {n : ℕ} → Refusal (first_no (loading block)) n → r ≡ refused_with n → Entered block rest ts r
  entered_refused {n} e a =
      refused_as (speeds_in block) ts a e.positive (no_before (loading block) (rest (speeds_in block)) n e.positive e.is)

  pub entered_loaded :
      {held : List ℕ} {levels : ℕ} →
      Loads block held levels →
      r ≡ judged_by (first_no (rest (loaded held levels))) (loaded held levels) ts →
      Entered block rest ts r
  entered_loaded l a =
      a
      ∙ ap (λ (s : List ℕ). judged_by (first_no (rest s)) s ts) l.is
      ∙ sym (ap (λ (k : ℕ). judged_by k (speeds_in block) ts) (yes_before (loading block) (rest (speeds_in block)) refl l.number))
