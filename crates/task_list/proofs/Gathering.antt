-- A list of tasks put into a plan, one after the other.
-- Assumes nothing.
use Prim.Native.Nat.{ℕ, suc, ◌+◌, ◌<◌, ◌≤◌, min}
use mathlib.Core.Path.{◌≡◌, refl, sym, ap, ap₂, ◌∙◌}
use mathlib.Core.List.{List, [], ◌∷◌, ◌++◌, append-nil}
use native.Mathlib.Omega.{arith}
use native.Mathlib.Decide.{dec_le, ℕ_discrete}
use lib.ListN.{length, set, take, length-set}
use lib.Seq.{take-suc-set, append_snoc}
use Rattle.plan.specs.declared.Task.{Task}
use Rattle.plan.specs.declared.Plan.{Plan}
use Rattle.plan.specs.Blocks.{tasks_of, plan_of}
use Rattle.arith.specs.Asking.{first_no}
use Rattle.arith.proofs.QuestionLaws.{no_before, yes_before}
use Rattle.plan.specs.LevelBlocks.{loading, speeds_in}
use Rattle.plan.specs.Questions.{judging}
use Rattle.plan.specs.Answers.{judged_list, judged_plan}
use Rattle.task_list.specs.Lists.{put_task, gathered_from}
use Rattle.judging.proofs.verdicts.Judgements.{count_high, refused_as}

-- a gathered list: its count, and up to 16 its tasks
gathered_count : (p : Plan) (ts : List Task) → p.count ≤ 17 → (gathered_from p ts).count ≡ min (p.count + length ts) 17
gathered_count p [] h = omega arith
gathered_count p (t ∷ ts) h =
    let e : (gathered_from (put_task p t) ts).count ≡ min (min (suc p.count) 17 + length ts) 17 = gathered_count (put_task p t) ts (omega arith) in
    omega arith

gathered_tasks : (p : Plan) (ts : List Task) → length p.tasks ≡ 16 → p.count + length ts ≤ 16 → tasks_of (gathered_from p ts) ≡ tasks_of p ++ ts
gathered_tasks p [] size h = sym (append-nil (tasks_of p))
gathered_tasks p (t ∷ ts) size h =
    let e : min (suc p.count) 17 ≡ suc p.count = omega arith in
    gathered_tasks (put_task p t) ts (length-set p.tasks p.count t ∙ size) (omega arith)
    ∙ ap (λ (k : ℕ). take k (set p.tasks p.count t) ++ ts) e
    ∙ ap (λ (l : List Task). l ++ ts) (take-suc-set p.tasks p.count t (omega arith))
    ∙ append_snoc (tasks_of p) t ts

all_count : (ts : List Task) → (gathered_from (plan_of []) ts).count ≡ min (length ts) 17
all_count ts = gathered_count (plan_of []) ts (omega arith) ∙ omega arith

-- a list that is too long is refused, whatever it holds: by the level block's number, or where that is accepted by 3
module _ (levels : List ℕ) (ts : List Task) (h : 16 < length ts) where
  abbrev number : ℕ → List Task → ℕ
  number count l = first_no (loading levels ++ judging (speeds_in levels) count l)

  abbrev packed : Plan
  packed = gathered_from (plan_of []) ts

  same_refusal :
      {n : ℕ} → 0 < n → ((count : ℕ) (l : List Task) → 16 < count → number count l ≡ n) → judged_plan levels packed ≡ judged_list levels (length ts) ts
  same_refusal pos e =
      sym (refused_as (speeds_in levels) (tasks_of packed) refl pos (e packed.count (tasks_of packed) (omega (arith, all_count ts))))
      ∙ refused_as (speeds_in levels) ts refl pos (e (length ts) ts h)

  too_long : judged_plan levels packed ≡ judged_list levels (length ts) ts
  too_long =
      elim (ℕ_discrete (first_no (loading levels)) 0) [
        | yes z ↦ same_refusal {n = 3} (omega arith)
            (λ count l g. yes_before (loading levels) (judging (speeds_in levels) count l) refl z ∙ count_high (speeds_in levels) l count g)
        | no z ↦ let pos : 0 < first_no (loading levels) = omega (arith, z) in
            same_refusal pos (λ count l g. no_before (loading levels) (judging (speeds_in levels) count l) (first_no (loading levels)) pos refl)
      ]

pub judged_gathered : (levels : List ℕ) (ts : List Task) → judged_plan levels (gathered_from (plan_of []) ts) ≡ judged_list levels (length ts) ts
judged_gathered levels ts =
    elim (dec_le (length ts) 16) [
      | yes h ↦
          let c : (gathered_from (plan_of []) ts).count ≡ length ts = all_count ts ∙ omega arith in
          ap₂ (λ (k : ℕ) (l : List Task). judged_list levels k l) c (gathered_tasks (plan_of []) ts refl (omega arith))
      | no h ↦ too_long levels ts (omega arith)
    ]
