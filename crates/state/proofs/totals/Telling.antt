-- What asking for the total finds.
-- Assumes nothing.
use Prim.Native.Nat.{ℕ}
use mathlib.Core.Path.{◌≡◌, refl, sym, ap, ◌∙◌}
use mathlib.Core.List.{List}
use borrow.Author.Tests.{eq-eqb, ne_eqb}
use lib.ListN.{length}
use Rattle.arith.proofs.QuestionLaws.{ask_yes, ask_no}
use Rattle.reclaiming.specs.StateBlock.{state_length, total_in}
use Rattle.reclaiming.specs.Calls.{queued_reply}
use Rattle.std.specs.declared.result.Result.TheVariants.{Ok}
use Rattle.plan.specs.Counted.{refused, counted_by}

-- each way out of asking
pub told_not : (bytes : List ℕ) → (length bytes ≡ state_length → ⊥) → refused 10 ≡ queued_reply bytes
told_not bytes f = sym (ap (λ (n : ℕ). counted_by n (total_in bytes)) (ask_no 10 0 (ne_eqb (length bytes) state_length f)))

pub told : (bytes : List ℕ) {total : ℕ} → length bytes ≡ state_length → total ≡ total_in bytes → Ok total ≡ queued_reply bytes
told bytes size read =
    ap Ok read ∙ sym (ap (λ (n : ℕ). counted_by n (total_in bytes)) (ask_yes 10 (eq-eqb (length bytes) state_length size) refl))
