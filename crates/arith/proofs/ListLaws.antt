-- Laws of lists, and of tests of every element.
-- Assumes nothing.
use Prim.Native.Nat.{ℕ, zero, suc, ◌+◌, ◌-◌, ◌<◌, ◌≤◌}
use mathlib.Core.Path.{◌≡◌, refl, sym, ap, ◌∙◌}
use mathlib.Core.Bool.{Bool, true}
use mathlib.Core.List.{List, [], ◌∷◌, ◌++◌, map}
use native.Mathlib.Nat.{not-suc-le-zero}
use native.Mathlib.Decide.{dec_le}
use native.Mathlib.Omega.{arith}
use borrow.Author.Tests.{eqb-true}
use lib.Dec.{eqb}
use lib.ListN.{length, get_or, get_or-append, get_or-eq_default}
use lib.Seq.{get_or-append-add}
use Rattle.arith.specs.Choice.{both, every}
use Rattle.arith.proofs.Tests.{both_left, both_right, both_true, both_swap}

-- an element of the first of two lists joined, and one of the second
module _ {ℓ} {A : Type ℓ} (xs ys : List A) (n k : ℕ) (d : A) (e : length xs ≡ n) where
  pub get_d_early : k < n → get_or (xs ++ ys) k d ≡ get_or xs k d
  get_d_early h = get_or-append xs ys d k (omega arith)

  pub get_d_later : n ≤ k → get_or (xs ++ ys) k d ≡ get_or ys (k - n) d
  get_d_later h =
      let place : k ≡ length xs + (k - n) = omega arith in
      ap (λ (m : ℕ). get_or (xs ++ ys) m d) place ∙ get_or-append-add xs ys (k - n) d

-- a test of every element is a test at every place
pub every_at {ℓ} : {A : Type ℓ} (f : A → Bool) (l : List A) (k : ℕ) (d : A) → every f l ≡ true → k < length l → f (get_or l k d) ≡ true
every_at f [] k d h l = absurd (not-suc-le-zero l)
every_at f (x ∷ xs) zero d h l = both_left (f x) (every f xs) h
every_at f (x ∷ xs) (suc k) d h l = every_at f xs k d (both_right (f x) (every f xs) h) (omega arith)

pub at_every {ℓ} : {A : Type ℓ} (f : A → Bool) (l : List A) (d : A) → ((k : ℕ) → k < length l → f (get_or l k d) ≡ true) → every f l ≡ true
at_every f [] d h = refl
at_every f (x ∷ xs) d h = both_true (h 0 (omega arith)) (at_every f xs d (λ k l. h (suc k) (omega arith)))

-- where every element is 0, each place is, past the end too
pub zero_at : (ds : List ℕ) → every (eqb 0) ds ≡ true → (k : ℕ) → get_or ds k 0 ≡ 0
zero_at ds h k =
    elim (dec_le (suc k) (length ds)) [
      | yes l ↦ sym (eqb-true 0 (get_or ds k 0) (every_at (eqb 0) ds k 0 h l))
      | no l ↦ get_or-eq_default ds 0 {n = k} (omega arith)
    ]

pub map_snoc : {A B : Type 0} (f : A → B) (l : List A) (x : A) → map f (l ++ (x ∷ [])) ≡ map f l ++ (f x ∷ [])
map_snoc f [] x = refl
map_snoc f (y ∷ l) x = ap (λ m. f y ∷ m) (map_snoc f l x)

-- two tests of every element, each by itself and both at once
pub every_both {ℓ} : {A : Type ℓ} (f g : A → Bool) (l : List A) → every (λ (x : A). both (f x) (g x)) l ≡ both (every f l) (every g l)
every_both f g [] = refl
every_both f g (x ∷ xs) =
    ap (both (both (f x) (g x))) (every_both f g xs) ∙ both_swap (f x) (g x) (every f xs) (every g xs)
