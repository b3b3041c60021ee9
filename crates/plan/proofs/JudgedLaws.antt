-- What a plan that was judged or read tells, by its verdict: its questions' number, and where it was admitted its tasks and its level.
-- Assumes nothing.
use Prim.Native.Nat.{ℕ}
use mathlib.Core.Path.{◌≡◌, sym, ap, ◌∙◌}
use mathlib.Core.List.{List}
use Rattle.plan.specs.declared.Task.{Task}
use Rattle.plan.specs.declared.Judged.{Judged}
use Rattle.plan.specs.Answers.{Verdict, accepted_with, answered, beside, judged_by}
use Rattle.std.specs.declared.result.Result.TheVariants.{Ok, Err}
use Rattle.plan.specs.Counted.{refused}
use Rattle.plan.specs.Levels.{nominal}
use Rattle.plan.specs.Blocks.{tasks_of, plan_of}
use Rattle.plan.proofs.RoundTrip.{tasks_of-plan_of}
use Rattle.plan.proofs.AnswerLaws.{Refusal, told_refused, told_admitted}

pub judged_refused :
    (speeds : List ℕ) (number : ℕ) (ts : List Task) {j : Judged} {n : ℕ} →
    j ≡ judged_by number speeds ts →
    j.verdict ≡ refused n →
    Refusal number n
judged_refused speeds number ts {j} {n} is told =
    let t = told_refused speeds ts j.verdict number n (ap (λ (x : Judged). x.verdict) is) told in
    record { positive = t.0; is = t.1 }

-- the level that a verdict tells, 0 beside a refusal
abbrev pub level_told : Verdict → ℕ
level_told (Ok a) = a.nominal
level_told (Err e) = 0

pub record Admitted (speeds : List ℕ) (number : ℕ) (ts : List Task) (j : Judged) (level span : ℕ) : Type 0 where
  pub judged : j ≡ judged_by number speeds ts
  pub told : j.verdict ≡ accepted_with level span

module _ {speeds : List ℕ} {number : ℕ} {ts : List Task} {j : Judged} {level span : ℕ} (k : Admitted speeds number ts j level span) where
  verdict_is : j.verdict ≡ answered number speeds ts
  verdict_is = ap (λ (x : Judged). x.verdict) k.judged

  pub none_answered_no : number ≡ 0
  none_answered_no = told_admitted speeds ts j.verdict number level span verdict_is k.told

  pub plan_is : j.plan ≡ plan_of ts
  plan_is = ap (λ (x : Judged). x.plan) k.judged ∙ ap (λ (n : ℕ). beside n ts) none_answered_no

  pub tasks_are : tasks_of j.plan ≡ ts
  tasks_are = ap tasks_of plan_is ∙ tasks_of-plan_of ts

  pub level_is : level ≡ nominal speeds ts
  level_is =
      let v : accepted_with level span ≡ answered 0 speeds ts =
      sym k.told ∙ verdict_is ∙ ap (λ (n : ℕ). answered n speeds ts) none_answered_no in
      ap level_told v
