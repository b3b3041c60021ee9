-- What does not mind the order of a list: a sum over it, and its length.
-- Assumes nothing.
use Prim.Native.Nat.{ℕ, suc, ◌+◌}
use mathlib.Core.Path.{◌≡◌, refl, ap, ◌∙◌}
use mathlib.Core.List.{List, [], ◌∷◌}
use native.Mathlib.Omega.{arith}
use lib.ListN.{length}
use Rattle.arith.specs.Sum.{sum_of}
use Rattle.arith.specs.Rearranging.{Rearranged, none, keep, swap, after}

module _ {ℓ} {A : Type ℓ} where
  pub rearranged_sum : (f : A → ℕ) {xs ys : List A} → Rearranged xs ys → sum_of f xs ≡ sum_of f ys
  rearranged_sum f none = refl
  rearranged_sum f (keep {x} r) = ap (λ (n : ℕ). f x + n) (rearranged_sum f r)
  rearranged_sum f (swap {x} {y} {xs}) = omega arith
  rearranged_sum f (after r s) = rearranged_sum f r ∙ rearranged_sum f s

  pub rearranged_length : {xs ys : List A} → Rearranged xs ys → length xs ≡ length ys
  rearranged_length none = refl
  rearranged_length (keep r) = ap suc (rearranged_length r)
  rearranged_length swap = refl
  rearranged_length (after r s) = rearranged_length r ∙ rearranged_length s

  -- every list is a rearrangement of itself, and of what it is rearranged to
  pub rearranged_self : (l : List A) → Rearranged l l
  rearranged_self [] = none
  rearranged_self (x ∷ xs) = keep (rearranged_self xs)

  pub rearranged_back : {xs ys : List A} → Rearranged xs ys → Rearranged ys xs
  rearranged_back none = none
  rearranged_back (keep r) = keep (rearranged_back r)
  rearranged_back swap = swap
  rearranged_back (after r s) = after (rearranged_back s) (rearranged_back r)
