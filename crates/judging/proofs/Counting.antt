-- A plan judged over a table of speeds: what its count says of the questions.
-- Assumes nothing.
use Prim.Native.Nat.{ℕ, ◌<◌, ◌≤◌}
use mathlib.Core.Path.{◌≡◌, sym, ap, ◌∙◌}
use mathlib.Core.List.{List}
use Rattle.arith.specs.Asking.{first_no}
use Rattle.plan.specs.declared.Plan.{Plan}
use Rattle.plan.specs.declared.Judged.{Judged}
use Rattle.plan.specs.Answers.{judged_by, refused_with}
use Rattle.plan.specs.Blocks.{tasks_of}
use Rattle.plan.specs.Questions.{task_questions, judging}
use Rattle.judging.proofs.verdicts.Judgements.{count_low, count_high, count_good}

-- what judges a plan, where the first no is known
abbrev Judges : List ℕ → Plan → Judged → Type 0
Judges speeds p r = r ≡ judged_by (first_no (judging speeds p.count (tasks_of p))) speeds (tasks_of p)

module _ (speeds : List ℕ) (p : Plan) {r : Judged} where
  judged_by_lem : (n : ℕ) → r ≡ judged_by n speeds (tasks_of p) → first_no (judging speeds p.count (tasks_of p)) ≡ n → Judges speeds p r
  judged_by_lem n a e = a ∙ sym (ap (λ (k : ℕ). judged_by k speeds (tasks_of p)) e)

  pub judged_low : r ≡ refused_with 3 → p.count < 1 → Judges speeds p r
  judged_low a h = judged_by_lem 3 a (count_low speeds (tasks_of p) p.count h)

  pub judged_high : r ≡ refused_with 3 → 16 < p.count → Judges speeds p r
  judged_high a h = judged_by_lem 3 a (count_high speeds (tasks_of p) p.count h)

  pub judged_good :
      r ≡ judged_by (first_no (task_questions speeds (tasks_of p))) speeds (tasks_of p) →
      1 ≤ p.count →
      p.count ≤ 16 →
      Judges speeds p r
  judged_good a l h =
      judged_by_lem (first_no (task_questions speeds (tasks_of p))) a (count_good speeds (tasks_of p) p.count l h)
