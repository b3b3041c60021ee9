-- Runs of stores.
-- Assumes nothing.
use Prim.Native.Nat.{ℕ, zero, suc, ◌+◌, ◌-◌, ◌/◌, ◌%◌, ◌<◌, ◌≤◌}
use mathlib.Core.Path.{◌≡◌, sym, ap, ap₂, ◌∙◌}
use mathlib.Core.List.{List, [], ◌∷◌, ◌++◌}
use mathlib.Core.Logic.{◌⊎◌, inl, inr}
use native.Mathlib.Nat.{add-zero}
use native.Mathlib.Omega.{arith}
use lib.ListN.{length, get_or, set}
use lib.Seq.{sets, set_comm, get_or-set_other}
use Rattle.arith.specs.Digits.{digits}
use Rattle.arith.proofs.DigitLaws.{length_digits}

-- the last value of a run may be stored first
pub sets_snoc : (l : List ℕ) (at : ℕ) (vs : List ℕ) (v : ℕ) → sets l at (vs ++ (v ∷ [])) ≡ sets (set l (at + length vs) v) at vs
sets_snoc l at [] v = ap (λ (k : ℕ). set l k v) (sym (add-zero at))
sets_snoc l at (a ∷ vs) v =
    let apart : at ≡ suc at + length vs → ⊥ = λ e. omega arith in
    let here : suc at + length vs ≡ at + suc (length vs) = omega arith in
    sets_snoc (set l at a) (suc at) vs v
    ∙ ap (λ (m : List ℕ). sets m (suc at) vs) (set_comm l at (suc at + length vs) a v apart)
    ∙ ap (λ (k : ℕ). sets (set (set l k v) at a) (suc at) vs) here

-- the lowest digit stored, the higher ones are still to be stored
pub digits_stored :
    (b i at x : ℕ) (s : List ℕ) →
    0 < i →
    sets s at (digits b i x) ≡ sets (set s (at + (i - 1)) (x % b)) at (digits b (i - 1) (x / b))
digits_stored b zero at x s h = absurd (omega arith)
digits_stored b (suc i) at x s h =
    let e : suc i - 1 ≡ i = omega arith in
    sets_snoc s at (digits b i (x / b)) (x % b)
    ∙ ap₂ (λ (k j : ℕ). sets (set s (at + k) (x % b)) at (digits b j (x / b)))
    (length_digits b i (x / b) ∙ sym e)
    (sym e)

-- two runs of values stored at once are stored one after the other
pub sets_append : (l : List ℕ) (at : ℕ) (s t : List ℕ) → sets l at (s ++ t) ≡ sets (sets l at s) (at + length s) t
sets_append l at [] t = ap (λ (k : ℕ). sets l k t) (sym (add-zero at))
sets_append l at (a ∷ s) t =
    let e : suc at + length s ≡ at + suc (length s) = omega arith in
    sets_append (set l at a) (suc at) s t ∙ ap (λ (k : ℕ). sets (sets (set l at a) (suc at) s) k t) e

-- stores leave what stands before them, and past them
pub sets_else : (vs l : List ℕ) (i k : ℕ) → (k < i) ⊎ (i + length vs ≤ k) → get_or (sets l i vs) k 0 ≡ get_or l k 0
sets_else [] l i k h = λ j. get_or l k 0
sets_else (v ∷ vs) l i k (inl h) = sets_else vs (set l i v) (suc i) k (inl (omega arith)) ∙ get_or-set_other l i k v 0 (λ e. omega arith)
sets_else (v ∷ vs) l i k (inr h) = sets_else vs (set l i v) (suc i) k (inr (omega arith)) ∙ get_or-set_other l i k v 0 (λ e. omega arith)
