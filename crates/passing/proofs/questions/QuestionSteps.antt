-- The questions of a pass are the definition's, and what their answer says of the first no.
-- Assumes nothing.
use Prim.Native.Nat.{ℕ, zero, suc, ◌+◌}
use mathlib.Core.Path.{◌≡◌, refl, ap₂, ◌∙◌}
use mathlib.Core.Bool.{Bool, true, not}
use mathlib.Core.List.{List}
use borrow.Author.Rules.{rules}
use lib.Dec.{leb, ltb, eqb}
use Rattle.std.specs.declared.result.Result.TheVariants.{Ok, Err}
use Rattle.arith.specs.Choice.{pick}
use Rattle.arith.specs.Asking.{first_no}
use Rattle.arith.proofs.Tests.{passed, failed, tested}
use Rattle.plan.specs.declared.Refused.{Refused}
use Rattle.reclaiming.specs.Allotments.{timing}
use Rattle.reclaiming.specs.Orders.{next_arrival, running_time}
use Rattle.reclaiming.specs.Passes.{largest_clock, pass_questions}
use Rattle.reclaiming.specs.StateBlock.{State, plan_in}
use Rattle.reclaiming.specs.States.{view_of}
use Rattle.orders.specs.Code.{choice_of}
use Rattle.passing.specs.Questions.{time_questions, asked_by}

-- where there is no refusal, there is no no
pub none_refused : (n : ℕ) {x : Unit {0}} → Ok x ≡ asked_by n → n ≡ 0
none_refused zero h = refl
none_refused (suc n) h = search

-- a refusal's number is that of the first no
pub first_refused : (n : ℕ) {e : Refused} → Err e ≡ asked_by n → (e.number ≡ n) × (e.number ≡ 0 → ⊥)
first_refused zero h = search rules
first_refused (suc n) h = search rules

-- the questions put to a state's clock, its order and its next arrival are those of a pass
pub asked_is :
    (speeds : List ℕ) (s : State) (clock next d : ℕ) (finished : Bool) →
    clock ≡ s.clock →
    next ≡ next_arrival (timing speeds (plan_in s)) s.clock →
    first_no (time_questions clock (choice_of speeds s) next d finished) ≡ first_no (pass_questions speeds (timing speeds (plan_in s)) (view_of s) d finished)
asked_is speeds s clock next d finished t n =
    ap₂ (λ (x y : ℕ). first_no (time_questions x (choice_of speeds s) y d finished)) t n
    ∙ elim (tested (eqb s.task 255)) as (λ b _. asked b (pick b 0 (running_time speeds (view_of s))) ≡ asked b (running_time speeds (view_of s)))
    [ passed ↦ refl | failed ↦ refl ]
  where
    asked : Bool → ℕ → ℕ
    asked idle time =
        pick (leb 1 d)
        (pick (leb d (next_arrival (timing speeds (plan_in s)) s.clock))
        (pick (pick finished (not idle) true)
        (pick (pick (not idle) (pick finished (leb d time) (ltb d time)) true) (pick (leb (s.clock + d) largest_clock) 0 15) 14)
        13)
        12)
        11
