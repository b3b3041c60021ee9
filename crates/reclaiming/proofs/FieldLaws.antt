-- The laws of fields, over any list of them: reading a field of what was written, storing it, and storing one after another.
-- Assumes nothing.
use Prim.Native.Nat.{ℕ, zero, suc, ◌+◌, ◌^◌, ◌<◌}
use mathlib.Core.Path.{◌≡◌, refl, sym, ap, ap₂, ◌∙◌}
use mathlib.Core.List.{List, [], ◌∷◌, ◌++◌, map, append-nil, append_assoc}
use native.Mathlib.Omega.{arith}
use lib.ListN.{length, get_or, take, drop, set, length-append}
use lib.Seq.{sets, sets-eq, drop_at, take_at, drop-append-add}
use Rattle.arith.specs.Digits.{number, digits}
use Rattle.arith.proofs.Stores.{sets_append}
use Rattle.arith.proofs.DigitLaws.{length_digits, number_digits}
use Rattle.reclaiming.specs.Fields.{Field, width, value_in, fields_bytes, fields_length, field_at, width_of, offset_of, read_field}

-- stores past a front
sets_cons : (x : ℕ) (l : List ℕ) (k : ℕ) (v : List ℕ) → sets (x ∷ l) (suc k) v ≡ x ∷ sets l k v
sets_cons x l k [] = refl
sets_cons x l k (y ∷ v) = sets_cons x (set l k y) (suc k) v

pub sets_past : (p l : List ℕ) (n k : ℕ) (v : List ℕ) → length p ≡ n → sets (p ++ l) (n + k) v ≡ p ++ sets l k v
sets_past [] l n k v e = let z : n + k ≡ k = omega arith in ap (λ (m : ℕ). sets l m v) z
sets_past (x ∷ p) l n k v e =
    let z : n + k ≡ suc (length p + k) = omega arith in
    ap (λ (m : ℕ). sets (x ∷ p ++ l) m v) z
    ∙ sets_cons x (p ++ l) (length p + k) v
    ∙ ap (λ (m : List ℕ). x ∷ m) (sets_past p l (length p) k v refl)

-- stores over as many elements
pub sets_over : (p q r v : List ℕ) (k : ℕ) → length p ≡ k → length q ≡ length v → sets (p ++ (q ++ r)) k v ≡ p ++ (v ++ r)
sets_over p q r v k e h =
    let front : length (p ++ q) ≡ k + length v = omega (arith, length-append p q) in
    sets-eq v (p ++ (q ++ r)) k (omega (arith, length-append p (q ++ r), length-append q r))
    ∙ ap₂ (λ (x y : List ℕ). x ++ v ++ y) (take_at p (q ++ r) k e)
    (ap (λ (x : List ℕ). drop (k + length v) x) (sym (append_assoc p q r)) ∙ drop_at (p ++ q) r (k + length v) front)
    ∙ append_assoc p v r

-- the numbers in all fields
abbrev pub fields_values : {X : Type 0} → List (Field X) → X → List ℕ
fields_values fs x = map (value_in x) fs

module _ {X : Type 0} where
  pub length_fields : (fs : List (Field X)) (x : X) → length (fields_bytes fs x) ≡ fields_length fs
  length_fields [] x = refl
  length_fields (f ∷ fs) x =
      omega (
        arith,
        length-append (digits 256 (width f) (value_in x f)) (fields_bytes fs x),
        length_digits 256 (width f) (value_in x f),
        length_fields fs x,
      )

  -- reading a field of what was written gives its number, where that fits
  pub read_field_lem :
      (fs : List (Field X)) (k : ℕ) (x : X) (rest : List ℕ) →
      value_in x (field_at fs k) < 256 ^ width_of fs k →
      read_field fs k (fields_bytes fs x ++ rest) ≡ value_in x (field_at fs k)
  read_field_lem [] k x rest h = refl
  read_field_lem (f ∷ fs) zero x rest h =
      ap (λ (l : List ℕ). number 256 (width f) l) (append_assoc (digits 256 (width f) (value_in x f)) (fields_bytes fs x) rest)
      ∙ number_digits 256 (width f) (value_in x f) (fields_bytes fs x ++ rest) (omega arith) h
  read_field_lem (f ∷ fs) (suc k) x rest h =
      let front : List ℕ = digits 256 (width f) (value_in x f) in
      let n : ℕ = offset_of fs k in
      ap (λ (l : List ℕ). number 256 (width_of fs k) l)
      (ap₂ (λ (m : ℕ) (l : List ℕ). drop (m + n) l) (sym (length_digits 256 (width f) (value_in x f))) (append_assoc front (fields_bytes fs x) rest)
      ∙ drop-append-add front (fields_bytes fs x ++ rest) n)
      ∙ read_field_lem fs k x rest h

  -- fields with the same numbers are the same bytes
  pub fields_same : (fs : List (Field X)) (x y : X) → fields_values fs x ≡ fields_values fs y → fields_bytes fs x ≡ fields_bytes fs y
  fields_same [] x y e = refl
  fields_same (f ∷ fs) x y e =
      ap₂ (λ (n : ℕ) (l : List ℕ). digits 256 (width f) n ++ l) (ap (λ (l : List ℕ). get_or l 0 0) e)
      (fields_same fs x y (ap (λ (l : List ℕ). drop 1 l) e))

  -- storing a number in a field changes that number alone
  pub store_field :
      (fs : List (Field X)) (k : ℕ) (x y : X) (v : ℕ) (rest : List ℕ) →
      fields_values fs y ≡ set (fields_values fs x) k v →
      sets (fields_bytes fs x ++ rest) (offset_of fs k) (digits 256 (width_of fs k) v) ≡ fields_bytes fs y ++ rest
  store_field [] k x y v rest e = refl
  store_field (f ∷ fs) zero x y v rest e =
      let old : List ℕ = digits 256 (width f) (value_in x f) in
      let new : List ℕ = digits 256 (width f) v in
      ap (λ (l : List ℕ). sets l 0 new) (append_assoc old (fields_bytes fs x) rest)
      ∙ sets_over [] old (fields_bytes fs x ++ rest) new 0 refl
      (length_digits 256 (width f) (value_in x f) ∙ sym (length_digits 256 (width f) v))
      ∙ sym (append_assoc new (fields_bytes fs x) rest)
      ∙ ap (λ (l : List ℕ). l ++ rest)
      (ap₂ (λ (n : ℕ) (l : List ℕ). digits 256 (width f) n ++ l) (sym (ap (λ (l : List ℕ). get_or l 0 0) e))
      (sym (fields_same fs y x (ap (λ (l : List ℕ). drop 1 l) e))))
  store_field (f ∷ fs) (suc k) x y v rest e =
      let front : List ℕ = digits 256 (width f) (value_in x f) in
      let new : List ℕ = digits 256 (width_of fs k) v in
      ap (λ (l : List ℕ). sets l (width f + offset_of fs k) new) (append_assoc front (fields_bytes fs x) rest)
      ∙ sets_past front (fields_bytes fs x ++ rest) (width f) (offset_of fs k) new (length_digits 256 (width f) (value_in x f))
      ∙ ap₂ (λ (n : ℕ) (l : List ℕ). digits 256 (width f) n ++ l) (sym (ap (λ (l : List ℕ). get_or l 0 0) e))
      (store_field fs k x y v rest (ap (λ (l : List ℕ). drop 1 l) e))
      ∙ sym (append_assoc (digits 256 (width f) (value_in y f)) (fields_bytes fs y) rest)

  -- fields stored one after another: those below k are, and then field k is
  fields_next :
      (fs : List (Field X)) (k : ℕ) (x : X) →
      fields_bytes (take (suc k) fs) x ≡ fields_bytes (take k fs) x ++ digits 256 (width_of fs k) (value_in x (field_at fs k))
  fields_next [] zero x = refl
  fields_next [] (suc k) x = refl
  fields_next (f ∷ fs) zero x = append-nil (digits 256 (width f) (value_in x f))
  fields_next (f ∷ fs) (suc k) x =
      let front : List ℕ = digits 256 (width f) (value_in x f) in
      ap (λ (l : List ℕ). front ++ l) (fields_next fs k x)
      ∙ sym (append_assoc front (fields_bytes (take k fs) x) (digits 256 (width_of fs k) (value_in x (field_at fs k))))

  pub store_next :
      (fs : List (Field X)) (k : ℕ) (x : X) (l : List ℕ) (at : ℕ) {m n : List ℕ} →
      m ≡ sets l at (fields_bytes (take k fs) x) →
      n ≡ sets m (at + offset_of fs k) (digits 256 (width_of fs k) (value_in x (field_at fs k))) →
      n ≡ sets l at (fields_bytes (take (suc k) fs) x)
  store_next fs k x l at a b =
      let before : List ℕ = fields_bytes (take k fs) x in
      let new : List ℕ = digits 256 (width_of fs k) (value_in x (field_at fs k)) in
      b
      ∙ ap₂ (λ (y : List ℕ) (i : ℕ). sets y (at + i) new) a (sym (length_fields (take k fs) x))
      ∙ sym (sets_append l at before new)
      ∙ ap (λ (y : List ℕ). sets l at y) (sym (fields_next fs k x))
