-- Laws of the first element that passes a test.
-- Assumes nothing.
use Prim.Native.Nat.{ℕ, zero, suc, ◌+◌, ◌<◌, ◌≤◌}
use mathlib.Core.Path.{◌≡◌, refl, sym, subst, ◌∙◌}
use mathlib.Core.Bool.{Bool, true, false}
use mathlib.Core.List.{List, [], ◌∷◌}
use native.Mathlib.Nat.{not-suc-le-zero, le_trans}
use native.Mathlib.Decide.{dec_le}
use native.Mathlib.Omega.{arith}
use lib.Dec.{T}
use lib.ListN.{length, get_or}
use Rattle.arith.specs.Choice.{pick, first}
use Rattle.arith.proofs.Tests.{passed, failed, tested}

-- the first element that passes a test
module _ {ℓ} {A : Type ℓ} (f : A → Bool) where
  pub first_most : (l : List A) → first f l ≤ length l
  first_most [] = omega arith
  first_most (x ∷ xs) =
      elim (tested (f x)) as (λ t _. pick t 0 (suc (first f xs)) ≤ suc (length xs)) [
        | passed ↦ omega arith
        | failed ↦ omega (arith, first_most xs)
      ]

  -- none that passes stands before it
  pub first_le : (l : List A) (k : ℕ) (d : A) → k < length l → f (get_or l k d) ≡ true → first f l ≤ k
  first_le [] k d l h = absurd (not-suc-le-zero l)
  first_le (x ∷ xs) zero d l h = subst (λ (t : Bool). pick t 0 (suc (first f xs)) ≤ 0) (sym h) (omega arith)
  first_le (x ∷ xs) (suc k) d l h =
      elim (tested (f x)) as (λ t _. pick t 0 (suc (first f xs)) ≤ suc k) [
        | passed ↦ omega arith
        | failed ↦ omega (arith, first_le xs k d (omega arith) h)
      ]

  -- and it passes
  pub first_passes : (l : List A) (d : A) → first f l < length l → f (get_or l (first f l) d) ≡ true
  first_passes [] d h = absurd (not-suc-le-zero h)
  first_passes (x ∷ xs) d h = go (f x) refl h (first_passes xs d)
    where
      go :
          (t : Bool) →
          f x ≡ t →
          pick t 0 (suc (first f xs)) < suc (length xs) →
          (first f xs < length xs → f (get_or xs (first f xs) d) ≡ true) →
          f (get_or (x ∷ xs) (pick t 0 (suc (first f xs))) d) ≡ true
      go true e l rest = e
      go false e l rest = rest (omega arith)

  -- a search from the front: where it stops, where it goes on, and at the end
  pub first_found :
      (l : List A) (k : ℕ) (d : A) → k ≤ first f l → k < length l → f (get_or l k d) ≡ true → k ≡ first f l
  first_found l k d le h e = omega (arith, first_le l k d h e)

  pub first_next :
      (l : List A) (k : ℕ) (d : A) → k ≤ first f l → k < length l → f (get_or l k d) ≡ false → k + 1 ≤ first f l
  first_next l k d le h e =
      elim (dec_le (first f l) k) [
        | yes p ↦ let same : first f l ≡ k = omega arith in
            let passes : f (get_or l k d) ≡ true = subst (λ (j : ℕ). f (get_or l j d) ≡ true) same (first_passes l d (omega arith)) in
            absurd (subst T (sym passes ∙ e) tt)
        | no p ↦ omega arith
      ]

  pub first_none : (l : List A) (k : ℕ) → k ≤ first f l → length l ≤ k → k ≡ first f l
  first_none l k le h = omega (arith, first_most l)

  -- where a pass at one place gives a pass at every later one, all that fail stand before it
  pub first_after :
      (l : List A) (d : A) →
      ((i j : ℕ) → i ≤ j → j < length l → f (get_or l i d) ≡ true → f (get_or l j d) ≡ true) →
      (k : ℕ) →
      k < length l →
      f (get_or l k d) ≡ false →
      k < first f l
  first_after l d up k h e =
      elim (dec_le (first f l) k) [
        | yes p ↦ absurd (subst T (sym (up (first f l) k p h (first_passes l d (omega arith))) ∙ e) tt)
        | no p ↦ omega arith
      ]

-- a test that passes wherever another does passes no later
pub first_weaker {ℓ} :
    {A : Type ℓ} (f g : A → Bool) (l : List A) (d : A) →
    ((k : ℕ) → k < length l → f (get_or l k d) ≡ true → g (get_or l k d) ≡ true) →
    first g l ≤ first f l
first_weaker f g l d h =
    elim (dec_le (length l) (first f l)) [
      | yes p ↦ le_trans (first_most g l) p
      | no p ↦ first_le g l (first f l) d (omega arith) (h (first f l) (omega arith) (first_passes f l d (omega arith)))
    ]
