-- Laws of lists that loops use.
-- Assumes nothing.
use Prim.Native.Nat.{ℕ, suc, ◌+◌, ◌<◌, ◌≤◌}
use mathlib.Core.Path.{◌≡◌, sym, subst, ap, ◌∙◌}
use mathlib.Core.Bool.{Bool, true, false}
use mathlib.Core.List.{List, [], ◌∷◌, map}
use native.Mathlib.Numerals.{add-one}
use native.Mathlib.Omega.{arith}
use lib.ListN.{length, get_or, take, drop, length-map}
use lib.Seq.{drop-cons, drop-length, get_or-take, length-take-le}
use Rattle.arith.specs.Choice.{both, every}
use Rattle.arith.proofs.ListLaws.{every_at}

-- an array's length, from that of its elements' representations
pub length_mapped {ℓ κ} : {A : Type ℓ} {B : Type κ} (f : A → B) (l : List A) (n : ℕ) → length (map f l) ≡ n → length l ≡ n
length_mapped f l n h = sym (length-map l f) ∙ h

-- the first count elements of a list: the rest from a place on, and nothing at the end
pub rest_cons {ℓ} : {A : Type ℓ} (l : List A) (count i : ℕ) (d : A) → count ≤ length l → i < count → drop i (take count l) ≡ get_or l i d ∷ drop (i + 1) (take count l)
rest_cons l count i d le h =
    rw add-one
    (drop-cons (take count l) i d (omega (arith, length-take-le count l le))
    ∙ ap (λ x. x ∷ drop (suc i) (take count l)) (get_or-take count l i d h))

pub rest_end {ℓ} : {A : Type ℓ} (l : List A) (count : ℕ) → count ≤ length l → drop count (take count l) ≡ []
rest_end l count le =
    subst (λ (n : ℕ). drop n (take count l) ≡ []) (length-take-le count l le) (drop-length (take count l))

-- a test of every element, as a loop that counts up makes it
module _ {A : Type 0} (f : A → Bool) (l : List A) (count : ℕ) (d : A) (le : count ≤ length l) where
  pub every_again :
      (i : ℕ) → i < count → every f (drop i (take count l)) ≡ every f (take count l) → f (get_or l i d) ≡ true → every f (drop (i + 1) (take count l)) ≡ every f (take count l)
  every_again i h inv t =
      ap (λ (b : Bool). both b (every f (drop (i + 1) (take count l)))) (sym t)
      ∙ sym (ap (λ (x : List A). every f x) (rest_cons l count i d le h))
      ∙ inv

  pub every_not :
      (i : ℕ) → i < count → every f (drop i (take count l)) ≡ every f (take count l) → f (get_or l i d) ≡ false → false ≡ every f (take count l)
  every_not i h inv t =
      sym (ap (λ (x : List A). every f x) (rest_cons l count i d le h) ∙ ap (λ (b : Bool). both b (every f (drop (i + 1) (take count l)))) t)
      ∙ inv

  pub every_end : (i : ℕ) → i ≡ count → every f (drop i (take count l)) ≡ every f (take count l) → true ≡ every f (take count l)
  every_end i e inv =
      ap (λ (x : List A). every f x) (sym (rest_end l count le) ∙ ap (λ (n : ℕ). drop n (take count l)) (sym e)) ∙ inv

-- what passes at every element passes at each
pub every_taken {ℓ} : {A : Type ℓ} (f : A → Bool) (l : List A) (count : ℕ) (d : A) → count ≤ length l → every f (take count l) ≡ true → (i : ℕ) → i < count → f (get_or l i d) ≡ true
every_taken f l count d le h i q =
    ap f (sym (get_or-take count l i d q))
    ∙ every_at f (take count l) i d h (omega (arith, length-take-le count l le))
