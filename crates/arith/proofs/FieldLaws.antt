-- Laws of fields of bits: numbers that fit their fields are read back, and the numbers read from bits are those bits again.
-- Assumes nothing.
use Prim.Native.Nat.{ℕ, suc, ◌+◌, ◌-◌, ◌/◌, ◌%◌, ◌^◌, ◌<◌, ◌≤◌}
use mathlib.Core.Path.{◌≡◌, refl, sym, subst, ap, ap₂, ◌∙◌}
use mathlib.Core.List.{List, [], ◌∷◌, ◌++◌, append_assoc}
use native.Mathlib.Nat.{not-suc-le-zero}
use native.Mathlib.Decide.{dec_le}
use native.Mathlib.Omega.{arith}
use lib.ListN.{length, get_or, take, drop, length-append, length-drop}
use lib.Seq.{drop_at, get_or-drop, take-add}
use Rattle.arith.specs.Digits.{number, digits}
use Rattle.arith.specs.Bits.{fields_bits, fields_from, width_of}
use Rattle.arith.proofs.ListLaws.{get_d_early, get_d_later}
use Rattle.arith.proofs.DigitLaws.{length_digits, digit_at, digit_below, number_same, number_digits, digits_number}

-- two lists with the same bits, past their ends too
abbrev pub Same : List ℕ → List ℕ → Type 0
Same xs ys = (k : ℕ) → get_or xs k 0 ≡ get_or ys k 0

-- every one is 0 or 1
abbrev pub Below : List ℕ → Type 0
Below bits = (k : ℕ) → get_or bits k 0 < 2

-- from a place on, and one list after another
pub same_drop : (at : ℕ) (xs ys : List ℕ) → Same xs ys → Same (drop at xs) (drop at ys)
same_drop at xs ys h k = get_or-drop at xs k 0 ∙ h (at + k) ∙ sym (get_or-drop at ys k 0)

pub below_drop : (at : ℕ) (bits : List ℕ) → Below bits → Below (drop at bits)
below_drop at bits h k = subst (λ (x : ℕ). x < 2) (sym (get_or-drop at bits k 0)) (h (at + k))

pub below_append : (xs ys : List ℕ) → Below xs → Below ys → Below (xs ++ ys)
below_append xs ys p q k =
    elim (dec_le (suc k) (length xs)) [
      | yes h ↦ subst (λ (x : ℕ). x < 2) (sym (get_d_early xs ys (length xs) k 0 refl h)) (p k)
      | no h ↦ subst (λ (x : ℕ). x < 2) (sym (get_d_later xs ys (length xs) k 0 refl (omega arith))) (q (k - length xs))
    ]

pub digits_below : (n x : ℕ) → Below (digits 2 n x)
digits_below n x k = digit_below 2 n x k (omega arith)

-- a bit of the first field, and one of those after it
module _ (w x : ℕ) (rest : List ℕ) (r : ℕ) where
  pub field_bit : {e : ℕ} → r < w → w - suc r ≡ e → get_or (digits 2 w x ++ rest) r 0 ≡ x / 2 ^ e % 2
  field_bit h same =
      get_d_early (digits 2 w x) rest w r 0 (length_digits 2 w x) h
      ∙ digit_at 2 w x r h
      ∙ ap (λ (j : ℕ). x / 2 ^ j % 2) same

  pub field_past : w ≤ r → get_or (digits 2 w x ++ rest) r 0 ≡ get_or rest (r - w) 0
  field_past h = get_d_later (digits 2 w x) rest w r 0 (length_digits 2 w x) h

pub length_fields : (ws ns : List ℕ) → length (fields_bits ws ns) ≡ width_of ws
length_fields [] ns = refl
length_fields (w ∷ ws) ns =
    length-append (digits 2 w (get_or ns 0 0)) (fields_bits ws (drop 1 ns))
    ∙ omega (arith, length_digits 2 w (get_or ns 0 0), length_fields ws (drop 1 ns))

pub fields_below : (ws ns : List ℕ) → Below (fields_bits ws ns)
fields_below [] ns = λ k. omega arith
fields_below (w ∷ ws) ns =
    below_append (digits 2 w (get_or ns 0 0)) (fields_bits ws (drop 1 ns)) (digits_below w (get_or ns 0 0)) (fields_below ws (drop 1 ns))

-- reading looks only at the bits
pub fields_same : (ws xs ys : List ℕ) → Same xs ys → fields_from ws xs ≡ fields_from ws ys
fields_same [] xs ys h = refl
fields_same (w ∷ ws) xs ys h =
    ap₂ (λ (x : ℕ) (l : List ℕ). x ∷ l) (number_same 2 w xs ys (λ k l. h k))
    (fields_same ws (drop w xs) (drop w ys) (same_drop w xs ys h))

-- every number fits its field
abbrev pub Fit : List ℕ → List ℕ → Type 0
Fit [] ns = Unit {0}
Fit (w ∷ ws) ns = (get_or ns 0 0 < 2 ^ w) × Fit ws (drop 1 ns)

-- then they are read back, as many as there are fields
pub fields_read :
    (ws ns rest : List ℕ) →
    length ws ≤ length ns →
    Fit ws ns →
    fields_from ws (fields_bits ws ns ++ rest) ≡ take (length ws) ns
fields_read [] ns rest l f = refl
fields_read (w ∷ ws) [] rest l f = absurd (not-suc-le-zero l)
fields_read (w ∷ ws) (n ∷ ns) rest l f =
    let front : List ℕ = digits 2 w n in
    let after : List ℕ = fields_bits ws ns ++ rest in
    subst (λ (b : List ℕ). number 2 w b ∷ fields_from ws (drop w b) ≡ n ∷ take (length ws) ns) (sym (append_assoc front (fields_bits ws ns) rest))
    (ap₂ (λ (x : ℕ) (l : List ℕ). x ∷ l) (number_digits 2 w n after (omega arith) f.0)
    (ap (λ (b : List ℕ). fields_from ws b) (drop_at front after w (length_digits 2 w n))
    ∙ fields_read ws ns rest (omega arith) f.1))

-- and the numbers that are read from bits are those bits
pub fields_bits_lem :
    (ws bits : List ℕ) → width_of ws ≤ length bits → Below bits → fields_bits ws (fields_from ws bits) ≡ take (width_of ws) bits
fields_bits_lem [] bits l h = refl
fields_bits_lem (w ∷ ws) bits l h =
    ap₂ (λ (x y : List ℕ). x ++ y) (digits_number 2 w bits (omega arith) (λ k q. h k))
    (fields_bits_lem ws (drop w bits) (simp length-drop (omega arith)) (below_drop w bits h))
    ∙ sym (take-add w (width_of ws) bits)
