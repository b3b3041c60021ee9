-- What an answer on a plan tells of its number, and what it leaves in a lent buffer.
-- Assumes nothing.
use Prim.Native.Nat.{ℕ, zero, suc, ◌<◌}
use mathlib.Core.Path.{◌≡◌, refl, sym, ap, ◌∙◌}
use mathlib.Core.List.{List}
use native.Mathlib.Omega.{arith}
use lib.ListN.{length}
use Rattle.arith.specs.Asking.{number_of}
use Rattle.arith.specs.Digits.{number}
use Rattle.plan.specs.declared.Task.{Task}
use Rattle.plan.specs.Answers.{Verdict, accepted_with, verdict_answer, answered, written_by, stored_by}
use Rattle.std.specs.declared.result.Result.TheVariants.{Ok}
use Rattle.plan.specs.Counted.{Counted, refused, counted_number}

-- what an answer tells of its number
module _ (speeds : List ℕ) (ts : List Task) (v : Verdict) where
  pub told_refused : (m n : ℕ) → v ≡ answered m speeds ts → v ≡ refused n → (0 < n) × (m ≡ n)
  told_refused zero n a b = let z : ◌≡◌ {A = ℕ} 0 1 = cc in absurd (omega arith)
  told_refused (suc m) n a b = let e : suc m ≡ n = ap (λ (x : Verdict). number_of (verdict_answer x)) (sym a ∙ b) in (omega arith, e)

  pub told_admitted : (m l h : ℕ) → v ≡ answered m speeds ts → v ≡ accepted_with l h → m ≡ 0
  told_admitted zero l h a b = refl
  told_admitted (suc m) l h a b = let z : ◌≡◌ {A = ℕ} 0 1 = cc in absurd (omega arith)

-- a refusal: its number is n
pub record Refusal (number n : ℕ) : Type 0 where
  pub positive : 0 < n
  pub is : number ≡ n

module _ (bytes : List ℕ) {w : Counted} where
  pub told_unwritten : (number : ℕ) {n : ℕ} → w ≡ written_by number bytes → w ≡ refused n → Refusal number n
  told_unwritten zero a b = let z : ◌≡◌ {A = ℕ} 0 1 = cc in absurd (omega arith)
  told_unwritten (suc m) {n} a b = let e : suc m ≡ n = ap counted_number (sym a ∙ b) in record { positive = omega arith; is = e }

  pub told_written : (number : ℕ) {n : ℕ} → w ≡ written_by number bytes → w ≡ Ok n → (number ≡ 0) × (n ≡ length bytes)
  told_written zero {n} a b = let e : n ≡ length bytes = cc in (refl, e)
  told_written (suc m) a b = let z : ◌≡◌ {A = ℕ} 0 1 = cc in absurd (omega arith)

-- an answer, and what it leaves in the buffer
abbrev pub Leaves : ℕ → List ℕ → List ℕ → Counted → List ℕ → Type 0
Leaves number bytes buffer r m = (r ≡ written_by number bytes) × (m ≡ stored_by number bytes buffer)

pub leaves_refused :
    (number n : ℕ) (bytes buffer : List ℕ) →
    0 < n →
    number ≡ n →
    Leaves number bytes buffer (refused n) buffer
leaves_refused number zero bytes buffer p e = absurd (omega arith)
leaves_refused number (suc n) bytes buffer p e =
    (sym (ap (λ (k : ℕ). written_by k bytes) e), sym (ap (λ (k : ℕ). stored_by k bytes buffer) e))

pub leaves_written :
    (number n : ℕ) (bytes buffer m : List ℕ) →
    number ≡ 0 →
    n ≡ length bytes →
    m ≡ stored_by 0 bytes buffer →
    Leaves number bytes buffer (Ok n) m
leaves_written number n bytes buffer m e l s =
    (ap Ok l ∙ sym (ap (λ (k : ℕ). written_by k bytes) e), s ∙ sym (ap (λ (k : ℕ). stored_by k bytes buffer) e))
