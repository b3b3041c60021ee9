-- A verdict fits one number: a refusal's number is small, and so are a level and a hyperperiod.
-- Assumes nothing.
use Prim.Native.Nat.{ℕ, zero, suc, ◌+◌, ◌*◌, ◌^◌, ◌<◌, ◌≤◌}
use mathlib.Core.Path.{◌≡◌, refl, sym, subst}
use mathlib.Core.List.{List, ◌++◌}
use native.Mathlib.Omega.{arith}
use lib.ListN.{length}
use Rattle.plan.specs.declared.Task.{Task}
use Rattle.plan.specs.declared.Plan.{Plan}
use Rattle.plan.specs.declared.Judged.{Judged}
use Rattle.plan.specs.Levels.{hyperperiod, nominal}
use Rattle.plan.specs.LevelBlocks.{speeds_in, loading}
use Rattle.plan.specs.Blocks.{tasks_of}
use Rattle.plan.specs.Questions.{judging}
use Rattle.arith.specs.Asking.{Question, first_no}
use Rattle.plan.specs.Answers.{answered, judged_by, judged_plan}
use Rattle.plan.specs.Numbers.{verdict_number}
use Rattle.plan.proofs.LevelBlockLaws.{loaded_table}
use Rattle.plan.proofs.Facts.{FineTasks, fine_list}
use Rattle.arith.proofs.QuestionLaws.{first_no_most, yes_of, yes_after}

-- a verdict over accepted levels, of which there are at most eight
packed_most : (level span : ℕ) → level < 8 → span ≤ 1000000 → 256 * level + 65536 * span < 2 ^ 36
packed_most level span a b = omega arith

verdict_most :
    (speeds : List ℕ) (n : ℕ) (ts : List Task) →
    n ≤ 255 →
    (n ≡ 0 → length speeds ≤ 8) →
    (n ≡ 0 → FineTasks speeds ts) →
    verdict_number (answered n speeds ts) < 2 ^ 36
verdict_most speeds zero ts h few f =
    packed_most (nominal speeds ts) (hyperperiod ts) (omega (arith, (f refl).admitted, few refl)) (f refl).span_most
verdict_most speeds (suc n) ts h few f = omega arith

-- where some questions come after those put to a level block, and leave fine tasks
module _ (levels : List ℕ) where
  pub entered_most :
      (rest : List Question) (ts : List Task) →
      first_no (loading levels ++ rest) ≤ 255 →
      (first_no rest ≡ 0 → FineTasks (speeds_in levels) ts) →
      {j : Judged} →
      j ≡ judged_by (first_no (loading levels ++ rest)) (speeds_in levels) ts →
      verdict_number j.verdict < 2 ^ 36
  entered_most rest ts h f e =
      subst (λ (x : Judged). verdict_number x.verdict < 2 ^ 36) (sym e)
      (verdict_most (speeds_in levels) (first_no (loading levels ++ rest)) ts h
      (λ z. (loaded_table levels (yes_of (loading levels) rest z)).few)
      (λ z. f (yes_after (loading levels) rest refl z)))

  pub judged_most : (p : Plan) {j : Judged} → j ≡ judged_plan levels p → verdict_number j.verdict < 2 ^ 36
  judged_most p =
      let asked : List Question = judging (speeds_in levels) p.count (tasks_of p) in
      entered_most asked (tasks_of p) (first_no_most 255 (loading levels ++ asked) refl)
      (λ z. (fine_list (speeds_in levels) p.count (tasks_of p) z).tasks)
