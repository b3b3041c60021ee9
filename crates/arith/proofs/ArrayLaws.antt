-- Laws of a list in an array of a fixed size.
-- Assumes nothing.
use Prim.Native.Nat.{ℕ, suc, ◌+◌, ◌-◌, ◌<◌, ◌≤◌}
use mathlib.Core.Path.{◌≡◌, sym, ap, ap₂, ◌∙◌}
use mathlib.Core.List.{List, [], ◌∷◌, ◌++◌}
use native.Mathlib.Numerals.{add-one}
use native.Mathlib.Omega.{arith}
use native.Mathlib.Decide.{dec_le}
use lib.ListN.{length, get_or, take, set, replicate, length-append, length-replicate, get_or-replicate, get_or-append, get_or-eq_default}
use lib.Seq.{get_or-append-add, length-take-le, take-suc, set_at, append_snoc}
use Rattle.arith.specs.Ranges.{list_to}
use Rattle.arith.specs.Arrays.{padded}
use Rattle.arith.proofs.RangeLaws.{length-list_to, get_d_list_to}

module _ {ℓ} {A : Type ℓ} (size : ℕ) (past : A) where
  -- an array before anything is stored
  pub padded_none : replicate size past ≡ padded size past []
  padded_none = let e : size ≡ size - 0 = omega arith in ap (λ (k : ℕ). replicate k past) e

  pub length-padded : (l : List A) → length l ≤ size → length (padded size past l) ≡ size
  length-padded l h =
      length-append l (replicate (size - length l) past) ∙ omega (arith, length-replicate (size - length l) past)

  -- each place, past the list too
  pub padded_at : (l : List A) (i : ℕ) → get_or (padded size past l) i past ≡ get_or l i past
  padded_at l i =
      elim (dec_le (suc i) (length l)) [
        | yes h ↦ get_or-append l (replicate (size - length l) past) past i h
        | no h ↦
            let place : i ≡ length l + (i - length l) = omega arith in
            ap (λ (k : ℕ). get_or (padded size past l) k past) place
            ∙ get_or-append-add l (replicate (size - length l) past) (i - length l) past
            ∙ beyond (size - length l) (i - length l)
            ∙ sym (get_or-eq_default l past {n = i} (omega arith))
      ]
    where
      beyond : (n k : ℕ) → get_or (replicate n past) k past ≡ past
      beyond n k =
          elim (dec_le (suc k) n) [
            | yes h ↦ get_or-replicate n k past past h
            | no h ↦ get_or-eq_default (replicate n past) past {n = k} (omega (arith, length-replicate n past))
          ]

  -- one element more, stored at the list's end
  pub padded_more : (l : List A) (i : ℕ) (x : A) → length l ≡ i → i < size → set (padded size past l) i x ≡ padded size past (l ++ (x ∷ []))
  padded_more l i x e h =
      let left : size - length l ≡ suc (size - length (l ++ (x ∷ []))) = omega (arith, length-append l (x ∷ [])) in
      ap (λ (k : ℕ). set (l ++ replicate k past) i x) left
      ∙ set_at l past (replicate (size - length (l ++ (x ∷ []))) past) x i e
      ∙ sym (append_snoc l x (replicate (size - length (l ++ (x ∷ []))) past))

  -- an array filled with a function's values, from the front: a turn of the loop, and an element
  pub values_more :
      (f : ℕ → A) (l : List A) (i : ℕ) (x : A) →
      i < size →
      l ≡ padded size past (list_to i f) →
      x ≡ f i →
      set l i x ≡ padded size past (list_to (i + 1) f)
  values_more f l i x h inv e =
      ap₂ (λ (m : List A) (y : A). set m i y) inv e
      ∙ padded_more (list_to i f) i (f i) (length-list_to i f) h
      ∙ sym (ap (λ (k : ℕ). padded size past (list_to k f)) (add-one i))

  pub value_at : (n : ℕ) (f : ℕ → A) (i : ℕ) → i < n → get_or (padded size past (list_to n f)) i past ≡ f i
  value_at n f i h = padded_at (list_to n f) i ∙ get_d_list_to n f i past h

  -- an array filled with a list's elements, from the front: a turn of the loop
  pub taken_more :
      (src l : List A) (i : ℕ) (x : A) →
      i < size →
      i < length src →
      l ≡ padded size past (take i src) →
      x ≡ get_or src i past →
      set l i x ≡ padded size past (take (i + 1) src)
  taken_more src l i x h q inv e =
      ap₂ (λ (m : List A) (y : A). set m i y) inv e
      ∙ padded_more (take i src) i (get_or src i past) (length-take-le i src (omega arith)) h
      ∙ ap (λ (m : List A). padded size past m) (sym (take-suc src i past q))
      ∙ sym (ap (λ (k : ℕ). padded size past (take k src)) (add-one i))
