-- Laws of sums, over the indices below a count and over a list.
-- Assumes nothing.
use Prim.Native.Nat.{ℕ, zero, suc, ◌+◌, ◌*◌, ◌≤◌, ◌<◌}
use mathlib.Core.Path.{◌≡◌, refl, sym, subst, ap, ◌∙◌}
use mathlib.Core.Bool.{Bool}
use mathlib.Core.List.{List, [], ◌∷◌, ◌++◌}
use native.Mathlib.Nat.{add-le-add, not-suc-le-zero}
use native.Mathlib.Decide.{dec_le}
use native.Mathlib.Omega.{arith}
use lib.Dec.{eqb}
use lib.ListN.{length, get_or, take}
use lib.Seq.{take-suc, take-length}
use Rattle.arith.specs.Choice.{pick}
use Rattle.arith.specs.Sum.{sum_to, sum_of}
use Rattle.arith.proofs.Tests.{passed, failed, tested, eq_yes, eq_not, test_eq}

-- smaller terms, smaller sum
pub sum_to_le : (n : ℕ) (f g : ℕ → ℕ) → ((i : ℕ) → i < n → f i ≤ g i) → sum_to n f ≤ sum_to n g
sum_to_le zero f g h = omega arith
sum_to_le (suc n) f g h = omega (arith, sum_to_le n f g (λ i k. h i (omega arith)), h n (omega arith))

-- equal terms, equal sum
pub sum_to_eq : (n : ℕ) (f g : ℕ → ℕ) → ((i : ℕ) → i < n → f i ≡ g i) → sum_to n f ≡ sum_to n g
sum_to_eq zero f g h = refl
sum_to_eq (suc n) f g h = omega (arith, sum_to_eq n f g (λ i k. h i (omega arith)), h n (omega arith))

-- a sum of sums, taken apart
pub sum_to-add : (n : ℕ) (f g : ℕ → ℕ) → sum_to n (λ i. f i + g i) ≡ sum_to n f + sum_to n g
sum_to-add zero f g = refl
sum_to-add (suc n) f g = omega (arith, sum_to-add n f g)

-- a common factor, taken out
pub sum_to-mul : (n k : ℕ) (f : ℕ → ℕ) → sum_to n (λ i. k * f i) ≡ k * sum_to n f
sum_to-mul zero k f = omega arith
sum_to-mul (suc n) k f = omega (arith, sum_to-mul n k f)

-- a smaller value at each element makes a smaller sum
pub sum_of_le {ℓ} : {A : Type ℓ} (f g : A → ℕ) (l : List A) → ((x : A) → f x ≤ g x) → sum_of f l ≤ sum_of g l
sum_of_le f g [] h = omega arith
sum_of_le f g (x ∷ xs) h = add-le-add (h x) (sum_of_le f g xs h)

-- the sum over a list's first elements, index by index
sum_of_snoc {ℓ} : {A : Type ℓ} (f : A → ℕ) (l : List A) (x : A) → sum_of f (l ++ (x ∷ [])) ≡ sum_of f l + f x
sum_of_snoc f [] x = omega arith
sum_of_snoc f (y ∷ l) x = omega (arith, sum_of_snoc f l x)

pub sum_of_taken {ℓ} :
    {A : Type ℓ} (f : A → ℕ) (l : List A) (d : A) (n : ℕ) → n ≤ length l → sum_to n (λ i. f (get_or l i d)) ≡ sum_of f (take n l)
sum_of_taken f l d zero h = refl
sum_of_taken f l d (suc n) h =
    ap (λ (x : ℕ). x + f (get_or l n d)) (sum_of_taken f l d n (omega arith))
    ∙ sym (sum_of_snoc f (take n l) (get_or l n d))
    ∙ ap (λ x. sum_of f x) (sym (take-suc l n d h))

pub sum_of_places {ℓ} : {A : Type ℓ} (f : A → ℕ) (l : List A) (d : A) → sum_of f l ≡ sum_to (length l) (λ i. f (get_or l i d))
sum_of_places f l d = ap (λ x. sum_of f x) (sym (take-length l)) ∙ sym (sum_of_taken f l d (length l) (omega arith))

-- numbers that are each at most k
pub sum_to_most : (n : ℕ) (f : ℕ → ℕ) (k : ℕ) → ((i : ℕ) → i < n → f i ≤ k) → sum_to n f ≤ k * n
sum_to_most zero f k h = omega arith
sum_to_most (suc n) f k h = omega (arith, sum_to_most n f k (λ i l. h i (omega arith)), h n (omega arith))

pub sum_of_most {ℓ} : {A : Type ℓ} (f : A → ℕ) (l : List A) (k : ℕ) (d : A) → ((i : ℕ) → i < length l → f (get_or l i d) ≤ k) → sum_of f l ≤ k * length l
sum_of_most f l k d h = omega (arith, sum_of_places f l d, sum_to_most (length l) (λ i. f (get_or l i d)) k h)

-- numbers of which all but one are the same
pub sum_to_but :
    (n : ℕ) (f g : ℕ → ℕ) (i : ℕ) → i < n → ((j : ℕ) → j < n → (j ≡ i → ⊥) → g j ≡ f j) → sum_to n g + f i ≡ sum_to n f + g i
sum_to_but zero f g i h same = absurd (not-suc-le-zero h)
sum_to_but (suc n) f g i h same =
    elim (test_eq n i) as (λ b _. sum_to n g + g n + f i ≡ sum_to n f + f n + g i) [
      | eq_yes e ↦
          subst (λ (k : ℕ). sum_to n g + g n + f k ≡ sum_to n f + f n + g k) e
          (omega (arith, sum_to_eq n g f (λ j l. same j (omega arith) (λ z. omega (arith, e, z)))))
      | eq_not e ↦ omega (arith, sum_to_but n f g i (omega arith) (λ j l z. same j (omega arith) z), same n (omega arith) e)
    ]

-- a term is at most the sum
pub sum_to_term : (n : ℕ) (f : ℕ → ℕ) (i : ℕ) → i < n → f i ≤ sum_to n f
sum_to_term zero f i h = absurd (not-suc-le-zero h)
sum_to_term (suc n) f i h =
    elim (dec_le (suc i) n) [
      | yes l ↦ omega (arith, sum_to_term n f i l)
      | no l ↦ let e : n ≡ i = omega arith in
          subst (λ (k : ℕ). f k ≤ sum_to n f + f n) e (omega arith)
    ]

-- a sum of which only one term counts
sum_none : (n x : ℕ) (f : ℕ → ℕ) → n ≤ x → sum_to n (λ j. pick {A = ℕ} (eqb j x) (f j) 0) ≡ 0
sum_none zero x f h = refl
sum_none (suc n) x f h =
    elim (test_eq n x) as (λ b _. sum_to n (λ j. pick {A = ℕ} (eqb j x) (f j) 0) + pick {A = ℕ} b (f n) 0 ≡ 0) [
      | eq_yes e ↦ absurd (omega arith)
      | eq_not e ↦ omega (arith, sum_none n x f (omega arith))
    ]

pub sum_one : (n x : ℕ) (f : ℕ → ℕ) → x < n → sum_to n (λ j. pick {A = ℕ} (eqb j x) (f j) 0) ≡ f x
sum_one zero x f h = absurd (omega arith)
sum_one (suc n) x f h =
    elim (test_eq n x) as (λ b _. sum_to n (λ j. pick {A = ℕ} (eqb j x) (f j) 0) + pick {A = ℕ} b (f n) 0 ≡ f x) [
      | eq_yes e ↦ omega (arith, sum_none n x f (omega arith), ap f e)
      | eq_not e ↦ omega (arith, sum_one n x f (omega arith))
    ]

-- a part of a sum falls by no more than the whole
pub part_falls : (n : ℕ) (b : ℕ → Bool) (f g : ℕ → ℕ) → ((i : ℕ) → i < n → g i ≤ f i) →
    sum_to n (λ j. pick {A = ℕ} (b j) 0 (f j)) + sum_to n g ≤ sum_to n (λ j. pick {A = ℕ} (b j) 0 (g j)) + sum_to n f
part_falls zero b f g h = omega arith
part_falls (suc n) b f g h =
    elim (tested (b n))
    as (λ s _.
    sum_to n (λ j. pick {A = ℕ} (b j) 0 (f j)) + pick {A = ℕ} s 0 (f n) + (sum_to n g + g n)
    ≤ sum_to n (λ j. pick {A = ℕ} (b j) 0 (g j)) + pick {A = ℕ} s 0 (g n) + (sum_to n f + f n)) [
      | passed ↦ omega (arith, part_falls n b f g (λ i k. h i (omega arith)), h n (omega arith))
      | failed ↦ omega (arith, part_falls n b f g (λ i k. h i (omega arith)), h n (omega arith))
    ]
