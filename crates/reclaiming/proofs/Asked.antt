-- 02, No. 5: asking about a list of pairs before the start, and the start.
-- Assumes nothing.
use Prim.Native.Nat.{ℕ, zero, suc}
use mathlib.Core.Path.{◌≡◌, refl, sym, ap, ◌∙◌}
use mathlib.Core.Bool.{Bool}
use mathlib.Core.List.{List, [], ◌∷◌, ◌++◌, append_assoc}
use native.Mathlib.Omega.{arith}
use borrow.Author.Tests.{ne_eqb}
use lib.Dec.{eqb}
use Rattle.arith.specs.Choice.{pick}
use Rattle.arith.specs.Asking.{Question, first_no}
use Rattle.arith.proofs.QuestionLaws.{no_before, yes_before}
use Rattle.plan.specs.LevelBlocks.{speeds_in, loading}
use Rattle.plan.specs.Questions.{room_question}
use Rattle.plan.specs.Pairs.{paired_reading, pair_number}
use Rattle.plan.specs.Answers.{room_number}
use Rattle.reclaiming.specs.StateBlock.{state_length}
use Rattle.reclaiming.specs.Promises.{AskedBefore}

pub asked_before : AskedBefore
asked_before levels block pairs room =
    ap first_no (sym (append_assoc (loading levels) own last)) ∙ by_number (pair_number levels block pairs) refl
  where
    own : List Question
    own = paired_reading (speeds_in levels) block pairs

    last : List Question
    last = room_question state_length room ∷ []

    by_number : (n : ℕ) → pair_number levels block pairs ≡ n → first_no ((loading levels ++ own) ++ last) ≡ pick (eqb n 0) (room_number state_length room) n
    by_number zero e = yes_before (loading levels ++ own) last refl e
    by_number (suc n) e =
        no_before (loading levels ++ own) last (suc n) (omega arith) e
        ∙ sym (ap (λ (b : Bool). pick b (room_number state_length room) (suc n)) (ne_eqb (suc n) 0 (λ z. omega arith)))
