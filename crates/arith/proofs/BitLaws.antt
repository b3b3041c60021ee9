-- Laws of bits: a number by its bits; packing and unpacking undo each other; bits are read out of the bytes that cover them.
-- Assumes nothing.
use Prim.Native.Nat.{ℕ, zero, suc, ◌+◌, ◌-◌, ◌*◌, ◌/◌, ◌%◌, ◌^◌, ◌<◌, ◌≤◌}
use mathlib.Core.Path.{◌≡◌, refl, sym, subst, ap, ap₂, ◌∙◌}
use mathlib.Core.List.{List, [], ◌∷◌, ◌++◌}
use native.Mathlib.Nat.{not-suc-le-zero, mod-eq_of_lt}
use native.Mathlib.Decide.{dec_le}
use native.Mathlib.Omega.{arith}
use borrow.Author.Tests.{eqb-true, eq-eqb}
use lib.Dec.{eqb}
use lib.Pow.{pow-lt}
use lib.ListN.{length, get_or, drop, length-append, length-drop, get_or-eq_default}
use lib.Seq.{get_or-drop, drop_at, drop-drop}
use Rattle.arith.specs.Choice.{every}
use Rattle.arith.specs.Digits.{number, digits}
use Rattle.arith.specs.Bits.{unpacked, packed_to}
use Rattle.arith.proofs.Tests.{same_test}
use Rattle.arith.proofs.ListLaws.{get_d_early, get_d_later, every_at, at_every}
use Rattle.arith.proofs.DigitLaws.{length_digits, digit_below, digit_number, number_digits, number_same, number_within, number_regrouped}

-- a number is zero exactly if its bits are
pub number_zero : (n : ℕ) (ds : List ℕ) → ((k : ℕ) → k < n → get_or ds k 0 ≡ 0) → number 2 n ds ≡ 0
number_zero zero ds h = refl
number_zero (suc n) ds h = omega (arith, number_zero n ds (λ k l. h k (omega arith)), h n (omega arith))

pub zero_number : (n : ℕ) (ds : List ℕ) → number 2 n ds ≡ 0 → (k : ℕ) → k < n → get_or ds k 0 ≡ 0
zero_number zero ds h k l = absurd (not-suc-le-zero l)
zero_number (suc n) ds h k l =
    elim (dec_le (suc k) n) [
      | yes f ↦ zero_number n ds (omega arith) k f
      | no f ↦ let e : n ≡ k = omega arith in
          subst (λ (j : ℕ). get_or ds j 0 ≡ 0) e (omega arith)
    ]

pub every_zero : (ds : List ℕ) → every (eqb 0) ds ≡ eqb (number 2 (length ds) ds) 0
every_zero ds =
    same_test (every (eqb 0) ds) (eqb (number 2 (length ds) ds) 0)
    (λ h. eq-eqb (number 2 (length ds) ds) 0 (number_zero (length ds) ds (λ k l. sym (eqb-true 0 (get_or ds k 0) (every_at (eqb 0) ds k 0 h l)))))
    (λ h. at_every (eqb 0) ds 0 (λ k l. eq-eqb 0 (get_or ds k 0) (sym (zero_number (length ds) ds (eqb-true (number 2 (length ds) ds) 0 h) k l))))

-- how many bits bytes have
pub length-unpacked : (s : List ℕ) → length (unpacked s) ≡ 8 * length s
length-unpacked [] = refl
length-unpacked (b ∷ bs) =
    length-append (digits 2 8 b) (unpacked bs) ∙ omega (arith, length_digits 2 8 b, length-unpacked bs)

-- those from a place on are zero exactly if the number that they are is
pub rest_zero :
    (s : List ℕ) (used : ℕ) →
    every (eqb 0) (drop used (unpacked s)) ≡ eqb (number 2 (8 * length s - used) (drop used (unpacked s))) 0
rest_zero s used =
    let rest : List ℕ = drop used (unpacked s) in
    every_zero rest
    ∙ ap (λ (n : ℕ). eqb (number 2 n rest) 0) (length-drop used (unpacked s) ∙ ap (λ (n : ℕ). n - used) (length-unpacked s))

-- within the first byte the bits are its own; past it they are those of the rest
module _ (b : ℕ) (bits : List ℕ) (k : ℕ) where
  early : k < 8 → get_or (digits 2 8 b ++ bits) k 0 ≡ get_or (digits 2 8 b) k 0
  early = get_d_early (digits 2 8 b) bits 8 k 0 (length_digits 2 8 b)

  later : 8 ≤ k → get_or (digits 2 8 b ++ bits) k 0 ≡ get_or bits (k - 8) 0
  later = get_d_later (digits 2 8 b) bits 8 k 0 (length_digits 2 8 b)

-- every one is 0 or 1
pub unpacked_below : (s : List ℕ) (k : ℕ) → get_or (unpacked s) k 0 < 2
unpacked_below [] k = omega arith
unpacked_below (b ∷ bs) k =
    elim (dec_le 8 k) [
      | yes h ↦ subst (λ (x : ℕ). x < 2) (sym (later b (unpacked bs) k h)) (unpacked_below bs (k - 8))
      | no h ↦ subst (λ (x : ℕ). x < 2) (sym (early b (unpacked bs) k (omega arith))) (digit_below 2 8 b k (omega arith))
    ]

pub length-packed : (n : ℕ) (bits : List ℕ) → length (packed_to n bits) ≡ n
length-packed zero bits = refl
length-packed (suc n) bits = ap suc (length-packed n (drop 8 bits))

-- byte j is made of the eight bits from 8 * j on
pub packed_at : (n : ℕ) (bits : List ℕ) (j : ℕ) → j < n → get_or (packed_to n bits) j 0 ≡ number 2 8 (drop (8 * j) bits)
packed_at zero bits j h = absurd (not-suc-le-zero h)
packed_at (suc n) bits zero h = refl
packed_at (suc n) bits (suc j) h =
    let e : 8 + 8 * j ≡ 8 * suc j = omega arith in
    packed_at n (drop 8 bits) j (omega arith)
    ∙ ap (λ (l : List ℕ). number 2 8 l) (drop-drop (8 * j) 8 bits ∙ ap (λ (k : ℕ). drop k bits) e)

-- packing looks only at the bits, and past a list's end they are 0
pub packed_same :
    (n : ℕ) (xs ys : List ℕ) →
    ((k : ℕ) → get_or xs k 0 ≡ get_or ys k 0) →
    packed_to n xs ≡ packed_to n ys
packed_same zero xs ys h = refl
packed_same (suc n) xs ys h =
    ap₂ (λ (x : ℕ) (l : List ℕ). x ∷ l) (number_same 2 8 xs ys (λ k l. h k))
    (packed_same n (drop 8 xs) (drop 8 ys) (λ k. get_or-drop 8 xs k 0 ∙ h (8 + k) ∙ sym (get_or-drop 8 ys k 0)))

-- bytes unpacked and packed again are the same bytes
pub packed-unpacked :
    (s : List ℕ) → ((k : ℕ) → k < length s → get_or s k 0 < 256) → packed_to (length s) (unpacked s) ≡ s
packed-unpacked [] h = refl
packed-unpacked (b ∷ bs) h =
    ap₂ (λ (x : ℕ) (l : List ℕ). x ∷ l) (number_digits 2 8 b (unpacked bs) (omega arith) (h 0 (omega arith)))
    (ap (λ (l : List ℕ). packed_to (length bs) l) (drop_at (digits 2 8 b) (unpacked bs) 8 (length_digits 2 8 b))
    ∙ packed-unpacked bs (λ k l. h (suc k) (omega arith)))

-- bits packed and unpacked again are the same bits
pub unpacked-packed :
    (n : ℕ) (bits : List ℕ) →
    length bits ≤ 8 * n →
    ((k : ℕ) → get_or bits k 0 < 2) →
    (k : ℕ) →
    get_or (unpacked (packed_to n bits)) k 0 ≡ get_or bits k 0
unpacked-packed zero bits l h k = sym (get_or-eq_default bits 0 (omega arith))
unpacked-packed (suc n) bits l h k =
    elim (dec_le 8 k) [
      | yes f ↦ let e : 8 + (k - 8) ≡ k = omega arith in
          let rest : get_or (unpacked (packed_to n (drop 8 bits))) (k - 8) 0 ≡ get_or (drop 8 bits) (k - 8) 0 =
          unpacked-packed n (drop 8 bits) (simp length-drop (omega arith)) (λ j. subst (λ (x : ℕ). x < 2) (sym (get_or-drop 8 bits j 0)) (h (8 + j))) (k - 8) in
          later (number 2 8 bits) (unpacked (packed_to n (drop 8 bits))) k f
          ∙ rest
          ∙ get_or-drop 8 bits (k - 8) 0
          ∙ ap (λ (j : ℕ). get_or bits j 0) e
      | no f ↦ early (number 2 8 bits) (unpacked (packed_to n (drop 8 bits))) k (omega arith)
          ∙ digit_number 2 8 bits (λ j q. h j) k (omega arith)
    ]

-- the number of k bytes is that of their bits
pub number_bytes :
    (s : List ℕ) →
    ((k : ℕ) → k < length s → get_or s k 0 < 256) →
    (j k : ℕ) →
    j + k ≤ length s →
    number 256 k (drop j s) ≡ number 2 (8 * k) (drop (8 * j) (unpacked s))
number_bytes s h j k l =
    number_regrouped 2 8 k (drop j s) (drop (8 * j) (unpacked s))
    (λ i q. get_or-drop j s i 0 ∙ byte (j + i) (omega arith) ∙ ap (λ (x : List ℕ). number 2 8 x) (place i))
  where
    byte : (i : ℕ) → i < length s → get_or s i 0 ≡ number 2 8 (drop (8 * i) (unpacked s))
    byte i q =
        ap (λ (x : List ℕ). get_or x i 0) (sym (packed-unpacked s h)) ∙ packed_at (length s) (unpacked s) i q

    place : (i : ℕ) → drop (8 * (j + i)) (unpacked s) ≡ drop (8 * i) (drop (8 * j) (unpacked s))
    place i =
        let e : 8 * (j + i) ≡ 8 * j + 8 * i = omega arith in
        ap (λ (x : ℕ). drop x (unpacked s)) e ∙ sym (drop-drop (8 * i) (8 * j) (unpacked s))

-- n bits, out of the bytes that cover them: some bits lead, and some stand beyond
pub bits_covered :
    (s : List ℕ) →
    ((k : ℕ) → k < length s → get_or s k 0 < 256) →
    (first bytes lead n beyond : ℕ) →
    first + bytes ≤ length s →
    8 * bytes ≡ lead + n + beyond →
    number 256 bytes (drop first s) / 2 ^ beyond % 2 ^ n ≡ number 2 n (drop (8 * first + lead) (unpacked s))
bits_covered s h first bytes lead n beyond l e =
    let bits : List ℕ = drop (8 * first) (unpacked s) in
    ap (λ (x : ℕ). x / 2 ^ beyond % 2 ^ n) (number_bytes s h first bytes l ∙ ap (λ (x : ℕ). number 2 x bits) e)
    ∙ number_within 2 lead n beyond bits (λ k. subst (λ (x : ℕ). x < 2) (sym (get_or-drop (8 * first) (unpacked s) k 0)) (unpacked_below s (8 * first + k)))
    ∙ ap (λ (x : List ℕ). number 2 n x) (drop-drop lead (8 * first) (unpacked s))

-- a power of two that 32 bits hold
power_held : (n : ℕ) → n ≤ 20 → 1 * 2 ^ n % 2 ^ 32 ≡ 2 ^ n
power_held n h =
    let e : 1 * 2 ^ n ≡ 2 ^ n = omega arith in
    ap (λ (x : ℕ). x % 2 ^ 32) e ∙ mod-eq_of_lt (pow-lt {i = n} {j = 32} (omega arith))

-- the n bits at a place, as they are read out of the bytes from the first that holds one to the last
pub bits_read :
    (s : List ℕ) →
    ((k : ℕ) → k < length s → get_or s k 0 < 256) →
    (at n r : ℕ) →
    n ≤ 20 →
    at + n ≤ 8 * length s →
    r ≡ number 256 ((at + n + 7) / 8 - at / 8) (drop (at / 8) s) →
    r / 2 ^ (8 * (at / 8 + ((at + n + 7) / 8 - at / 8)) - (at + n)) % (1 * 2 ^ n % 2 ^ 32) ≡ number 2 n (drop at (unpacked s))
bits_read s h at n r few l e =
    let first : ℕ = at / 8 in
    let bytes : ℕ = (at + n + 7) / 8 - first in
    let beyond : ℕ = 8 * (first + bytes) - (at + n) in
    let place : 8 * first + at % 8 ≡ at = omega arith in
    ap₂ (λ (x y : ℕ). x / 2 ^ beyond % y) e (power_held n few)
    ∙ bits_covered s h first bytes (at % 8) n beyond (omega arith) (omega arith)
    ∙ ap (λ (x : ℕ). number 2 n (drop x (unpacked s))) place
