-- Laws of the indices below a count.
-- Assumes nothing.
use Prim.Native.Nat.{ℕ, zero, suc, ◌-◌, ◌≤◌, ◌<◌}
use mathlib.Core.Path.{◌≡◌, refl, sym, subst, ◌∙◌, ap₂}
use mathlib.Core.Bool.{Bool, true, false, true≢false}
use mathlib.Core.List.{[], ◌∷◌, List, ◌++◌}
use native.Mathlib.Nat.{not-suc-le-zero}
use native.Mathlib.Decide.{dec_le}
use native.Mathlib.Omega.{arith}
use lib.ListN.{length, get_or, take, length-append, get_or-append}
use lib.Seq.{ext_get_or, get_or_at, get_or-take, length-take-le}
use Rattle.arith.specs.Choice.{pick}
use Rattle.arith.specs.Ranges.{least_to, list_to, some_to}
use Rattle.arith.proofs.Tests.{passed, failed, tested}

-- what is below suc n is below n, or n itself
below_split {ℓ} : (P : ℕ → Type ℓ) (n i : ℕ) → i < suc n → (i < n → P i) → P n → P i
below_split P n i h f g =
    elim (dec_le (suc i) n) [
      | yes k ↦ f k
      | no k ↦ let e : n ≡ i = omega arith in subst P e g
    ]

-- the least value is at most each
pub least_le : (n : ℕ) (f : ℕ → ℕ) (i : ℕ) → i < n → least_to n f ≤ f i
least_le zero f i h = absurd (not-suc-le-zero h)
least_le (suc n) f i h =
    below_split (λ (k : ℕ). least_to (suc n) f ≤ f k) n i h (λ k. omega (arith, least_le n f i k)) (omega arith)

-- and it is one of them
pub record Attained (n : ℕ) (f : ℕ → ℕ) : Type 0 where
  pub number : ℕ
  pub below : number < n
  pub is : least_to n f ≡ f number

pub least_at : (n : ℕ) (f : ℕ → ℕ) → 0 < n → Attained n f
least_at zero f h = absurd (not-suc-le-zero h)
least_at (suc zero) f h = record { number = 0; below = omega arith; is = omega arith }
least_at (suc (suc n)) f h = go (least_at (suc n) f (omega arith)) (dec_le (least_to (suc n) f) (f (suc n)))
  where
    go : Attained (suc n) f → Dec (least_to (suc n) f ≤ f (suc n)) → Attained (suc (suc n)) f
    go a (yes k) = record { number = a.number; below = omega arith; is = omega arith }
    go a (no k) = record { number = suc n; below = omega arith; is = omega arith }

-- where each value is less by d, so is the least
pub least_less : (n : ℕ) (f g : ℕ → ℕ) (d : ℕ) → 0 < n → ((i : ℕ) → i < n → g i ≡ f i - d) → least_to n g ≡ least_to n f - d
least_less n f g d h e =
    let a : Attained n f = least_at n f h in
    let b : Attained n g = least_at n g h in
    omega (
      arith,
      e a.number a.below,
      e b.number b.below,
      least_le n g a.number a.below,
      least_le n f b.number b.below,
    )

-- a list by its places
pub length-list_to {ℓ} : {A : Type ℓ} (n : ℕ) (f : ℕ → A) → length (list_to n f) ≡ n
length-list_to zero f = refl
length-list_to (suc n) f = length-append (list_to n f) (f n ∷ []) ∙ omega (arith, length-list_to n f)

pub get_d_list_to {ℓ} : {A : Type ℓ} (n : ℕ) (f : ℕ → A) (i : ℕ) (d : A) → i < n → get_or (list_to n f) i d ≡ f i
get_d_list_to zero f i d h = absurd (not-suc-le-zero h)
get_d_list_to (suc n) f i d h =
    below_split (λ (k : ℕ). get_or (list_to (suc n) f) k d ≡ f k) n i h
    (λ k. get_or-append (list_to n f) (f n ∷ []) d i (omega (arith, length-list_to n f)) ∙ get_d_list_to n f i d k)
    (get_or_at (list_to n f) (f n) [] d n (length-list_to n f))

-- a test that some index passes: each one that does makes it pass, and it fails exactly if each does
module _ (f : ℕ → Bool) where
  pub some_yes : (n i : ℕ) → i < n → f i ≡ true → some_to n f ≡ true
  some_yes zero i h e = absurd (not-suc-le-zero h)
  some_yes (suc n) i h e =
      elim (tested (f n)) as (λ t _. f n ≡ t → pick t true (some_to n f) ≡ true) [
        | passed ↦ λ x. refl
        | failed ↦ λ x. below_split (λ (k : ℕ). f k ≡ true → some_to n f ≡ true) n i h (λ k y. some_yes n i k y) (λ y. absurd (true≢false (sym y ∙ x))) e
      ] refl

  pub none_no : (n : ℕ) → ((i : ℕ) → i < n → f i ≡ false) → some_to n f ≡ false
  none_no zero h = refl
  none_no (suc n) h =
      subst (λ (t : Bool). pick t true (some_to n f) ≡ false) (sym (h n (omega arith))) (none_no n (λ i k. h i (omega arith)))

  pub no_none : (n : ℕ) → some_to n f ≡ false → (i : ℕ) → i < n → f i ≡ false
  no_none n h i k =
      elim (tested (f i)) as (λ t _. f i ≡ t → t ≡ false) [
        | passed ↦ λ x. sym (some_yes n i k x) ∙ h
        | failed ↦ λ x. refl
      ] refl

-- tests that agree at each index
pub some_same : (n : ℕ) (f g : ℕ → Bool) → ((i : ℕ) → i < n → f i ≡ g i) → some_to n f ≡ some_to n g
some_same zero f g h = refl
some_same (suc n) f g h = ap₂ (λ (x y : Bool). pick x true y) (h n (omega arith)) (some_same n f g (λ i k. h i (omega arith)))

-- a list whose values are known
pub list_to_is {ℓ} :
    {A : Type ℓ} (n : ℕ) (f : ℕ → A) (l : List A) (d : A) → length l ≡ n → ((i : ℕ) → i < n → get_or l i d ≡ f i) → l ≡ list_to n f
list_to_is n f l d size each =
    ext_get_or d l (list_to n f) (size ∙ sym (length-list_to n f)) (λ i h. each i (omega arith) ∙ sym (get_d_list_to n f i d (omega arith)))

-- the first values of a list
pub take-list_to {ℓ} : {A : Type ℓ} (m n : ℕ) (f : ℕ → A) (d : A) → m ≤ n → take m (list_to n f) ≡ list_to m f
take-list_to m n f d h =
    list_to_is m f (take m (list_to n f)) d (length-take-le m (list_to n f) (omega (arith, length-list_to n f)))
    (λ i k. get_or-take m (list_to n f) i d k ∙ get_d_list_to n f i d (omega arith))

-- lists that agree at each place
pub list_to_same {ℓ} : {A : Type ℓ} (n : ℕ) (f g : ℕ → A) → ((i : ℕ) → i < n → f i ≡ g i) → list_to n f ≡ list_to n g
list_to_same {A = A} zero f g h = refl
list_to_same {A = A} (suc n) f g h =
    ap₂ (λ (l : List A) (x : A). l ++ (x ∷ [])) (list_to_same n f g (λ i k. h i (omega arith))) (h n (omega arith))
