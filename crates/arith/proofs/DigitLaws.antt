-- The laws of digits, over any base and width.
-- Assumes nothing.
use Prim.Native.Nat.{ℕ, zero, suc, ◌+◌, ◌-◌, ◌*◌, ◌/◌, ◌%◌, ◌^◌, ◌<◌, ◌≤◌}
use mathlib.Core.Path.{◌≡◌, refl, sym, subst, ap, ap₂, ◌∙◌}
use mathlib.Core.List.{List, [], ◌∷◌, ◌++◌, append_assoc}
use native.Mathlib.Nat.{not-suc-le-zero, lt_of_lt_of_le, add-mul, mul_assoc, mul_comm, pow-zero, pow-suc, pow-le-pow_right}
use native.Mathlib.Nat.{mod-lt, div-add-mod', div-one, div-lt_iff_lt-mul, div-div-eq-div-mul}
use native.Mathlib.Numerals.{add-one}
use native.Mathlib.Decide.{dec_le}
use native.Mathlib.Omega.{arith}
use lib.Arith.{digits_lt, digits_div, digits_mod}
use lib.ListN.{length, get_or, take, drop, length-append, get_or-append, get_or-eq_default}
use lib.Seq.{get_or-append_seam, ext_get_or, length-take-le, get_or-take, get_or-drop}
use Rattle.arith.specs.Digits.{number, digits}

pub length_digits : (b n x : ℕ) → length (digits b n x) ≡ n
length_digits b zero x = refl
length_digits b (suc n) x =
    length-append (digits b n (x / b)) (x % b ∷ []) ∙ omega (arith, length_digits b n (x / b))

-- a number looks only at its digits
pub number_same :
    (b n : ℕ) (ds es : List ℕ) →
    ((k : ℕ) → k < n → get_or ds k 0 ≡ get_or es k 0) →
    number b n ds ≡ number b n es
number_same b zero ds es h = refl
number_same b (suc n) ds es h =
    ap₂ (λ (x y : ℕ). x * b + y) (number_same b n ds es (λ k l. h k (omega arith))) (h n (omega arith))

-- and so do the digits from a place on
pub number-drop_same :
    (b n at : ℕ) (xs ys : List ℕ) →
    ((k : ℕ) → get_or xs k 0 ≡ get_or ys k 0) →
    number b n (drop at xs) ≡ number b n (drop at ys)
number-drop_same b n at xs ys h =
    number_same b n (drop at xs) (drop at ys) (λ k l. get_or-drop at xs k 0 ∙ h (at + k) ∙ sym (get_or-drop at ys k 0))

-- a number of n digits is below the base to the n
pub number_below :
    (b n : ℕ) (ds : List ℕ) → ((k : ℕ) → k < n → get_or ds k 0 < b) → number b n ds < b ^ n
number_below b zero ds h = rw pow-zero (omega arith)
number_below b (suc n) ds h =
    rw pow-suc (digits_lt (number_below b n ds (λ k l. h k (omega arith))) (h n (omega arith)))

-- the digits of a number make the number again
pub number_digits :
    (b n x : ℕ) (rest : List ℕ) → 0 < b → x < b ^ n → number b n (digits b n x ++ rest) ≡ x
number_digits b zero x rest p h =
    let e : x < 1 = rw pow-zero at h in
    omega arith
number_digits b (suc n) x rest p h =
    let l : x < b ^ n * b = rw pow-suc at h in
    let front : List ℕ = digits b n (x / b) in
    let s : front ++ (x % b ∷ []) ++ rest ≡ front ++ (x % b ∷ rest) = append_assoc front (x % b ∷ []) rest in
    subst (λ (r : List ℕ). number b n r * b + get_or r n 0 ≡ x) (sym s)
    (ap₂ (λ (y z : ℕ). y * b + z)
    (number_digits b n (x / b) (x % b ∷ rest) p ((div-lt_iff_lt-mul p).1 l))
    (subst (λ (k : ℕ). get_or (front ++ (x % b ∷ rest)) k 0 ≡ x % b) (length_digits b n (x / b))
    (get_or-append_seam front (x % b) rest 0))
    ∙ div-add-mod' x b)

-- and a number's digits are those it was made of
pub digit_number :
    (b n : ℕ) (ds : List ℕ) →
    ((k : ℕ) → k < n → get_or ds k 0 < b) →
    (k : ℕ) →
    k < n →
    get_or (digits b n (number b n ds)) k 0 ≡ get_or ds k 0
digit_number b zero ds h k l = absurd (not-suc-le-zero l)
digit_number b (suc n) ds h k l =
    let d : ℕ = get_or ds n 0 in
    let small : d < b = h n (omega arith) in
    let e : digits b (suc n) (number b (suc n) ds) ≡ digits b n (number b n ds) ++ (d ∷ []) =
    ap₂ (λ (x y : ℕ). digits b n x ++ (y ∷ [])) (digits_div (number b n ds) small) (digits_mod (number b n ds) small) in
    let len : length (digits b n (number b n ds)) ≡ n = length_digits b n (number b n ds) in
    ap (λ (x : List ℕ). get_or x k 0) e
    ∙ elim (dec_le (suc k) n) [
      | yes f ↦ get_or-append (digits b n (number b n ds)) (d ∷ []) 0 k (omega arith)
          ∙ digit_number b n ds (λ j q. h j (omega arith)) k f
      | no f ↦ last ds (digits b n (number b n ds)) d k n len (omega arith) refl
    ]
  where
    last : (ds front : List ℕ) (d k n : ℕ) → length front ≡ n → k ≡ n → d ≡ get_or ds n 0 → get_or (front ++ (d ∷ [])) k 0 ≡ get_or ds k 0
    last ds front d k n len e same =
        ap (λ (m : ℕ). get_or (front ++ (d ∷ [])) m 0) (e ∙ sym len)
        ∙ get_or-append_seam front d [] 0
        ∙ same
        ∙ ap (λ (m : ℕ). get_or ds m 0) (sym e)

pub digits_number :
    (b n : ℕ) (ds : List ℕ) →
    n ≤ length ds →
    ((k : ℕ) → k < n → get_or ds k 0 < b) →
    digits b n (number b n ds) ≡ take n ds
digits_number b n ds l h =
    let len : length (digits b n (number b n ds)) ≡ n = length_digits b n (number b n ds) in
    ext_get_or 0 (digits b n (number b n ds)) (take n ds) (len ∙ sym (length-take-le n ds l))
    (λ k q. digit_number b n ds h k (omega arith) ∙ sym (get_or-take n ds k 0 (omega arith)))

-- the digit at a place
pub digit_at : (b n x k : ℕ) → k < n → get_or (digits b n x) k 0 ≡ x / b ^ (n - suc k) % b
digit_at b zero x k h = absurd (not-suc-le-zero h)
digit_at b (suc n) x k h =
    elim (dec_le (suc k) n) [ yes l ↦ front l (digit_at b n (x / b) k l) | no l ↦ last (omega arith) ]
  where
    front : k < n → get_or (digits b n (x / b)) k 0 ≡ x / b / b ^ (n - suc k) % b → get_or (digits b (suc n) x) k 0 ≡ x / b ^ (suc n - suc k) % b
    front l rest =
        let p : ℕ = n - suc k in
        let e : suc n - suc k ≡ suc p = omega arith in
        let power : b * b ^ p ≡ b ^ (suc n - suc k) = mul_comm b (b ^ p) ∙ sym (pow-suc b p) ∙ ap (λ (m : ℕ). b ^ m) (sym e) in
        get_or-append (digits b n (x / b)) (x % b ∷ []) 0 k (subst (λ (m : ℕ). k < m) (sym (length_digits b n (x / b))) l)
        ∙ rest
        ∙ ap (λ (m : ℕ). m % b) (div-div-eq-div-mul x b (b ^ p) ∙ ap (λ (m : ℕ). x / m) power)

    last : k ≡ n → get_or (digits b (suc n) x) k 0 ≡ x / b ^ (suc n - suc k) % b
    last e =
        let z : suc n - suc k ≡ 0 = omega arith in
        subst (λ (m : ℕ). get_or (digits b n (x / b) ++ (x % b ∷ [])) m 0 ≡ x % b) (length_digits b n (x / b) ∙ sym e) (get_or-append_seam (digits b n (x / b)) (x % b) [] 0)
        ∙ ap (λ (m : ℕ). m % b) (sym (ap (λ (m : ℕ). x / m) (ap (λ (m : ℕ). b ^ m) z ∙ pow-zero b) ∙ div-one x))

-- every digit is below the base
pub digit_below : (b n x k : ℕ) → 0 < b → get_or (digits b n x) k 0 < b
digit_below b n x k p =
    elim (dec_le (suc k) n) [
      | yes l ↦ subst (λ (d : ℕ). d < b) (sym (digit_at b n x k l)) (mod-lt (x / b ^ (n - suc k)) p)
      | no l ↦ let out : length (digits b n x) ≤ k = omega (arith, length_digits b n x) in
          subst (λ (d : ℕ). d < b) (sym (get_or-eq_default (digits b n x) 0 out)) p
    ]

-- one digit more, as a loop takes it
pub number_more :
    (b i at acc : ℕ) (s : List ℕ) →
    acc ≡ number b i (drop at s) →
    acc * b + get_or s (at + i) 0 ≡ number b (i + 1) (drop at s)
number_more b i at acc s e =
    rw add-one (ap₂ (λ (x y : ℕ). x * b + y) e (sym (get_or-drop at s i 0)))

pub below_more : (b i acc d : ℕ) → acc < b ^ i → d < b → acc * b + d < b ^ (i + 1)
below_more b i acc d h l = rw (add-one, pow-suc) (digits_lt h l)

pub below_cap : (b i m acc : ℕ) → 0 < b → i ≤ m → acc < b ^ i → acc < b ^ m
below_cap b i m acc p l h = lt_of_lt_of_le h (pow-le-pow_right p l)

-- the first m + n digits: the first m, then the n after them
pub number_split :
    (b m n : ℕ) (ds : List ℕ) → number b (m + n) ds ≡ number b m ds * b ^ n + number b n (drop m ds)
number_split b m zero ds =
    let e : m + 0 ≡ m = omega arith in
    ap (λ (k : ℕ). number b k ds) e ∙ rw pow-zero (omega arith)
number_split b m (suc n) ds =
    let e : m + suc n ≡ suc (m + n) = omega arith in
    ap (λ (k : ℕ). number b k ds) e
    ∙ ap₂ (λ (x y : ℕ). x * b + y) (number_split b m n ds) (sym (get_or-drop m ds n 0))
    ∙ more (number b m ds) (b ^ n) (number b n (drop m ds)) (get_or (drop m ds) n 0)
    ∙ ap (λ (x : ℕ). number b m ds * x + (number b n (drop m ds) * b + get_or (drop m ds) n 0)) (sym (pow-suc b n))
  where
    more : (x p y d : ℕ) → (x * p + y) * b + d ≡ x * (p * b) + (y * b + d)
    more x p y d = ap (λ (z : ℕ). z + d) (add-mul (x * p) y b) ∙ omega (arith, mul_assoc x p b)

-- digits within a number: those after them are divided off, and those before them are whole multiples
pub number_within :
    (b m n c : ℕ) (ds : List ℕ) →
    ((k : ℕ) → get_or ds k 0 < b) →
    number b (m + n + c) ds / b ^ c % b ^ n ≡ number b n (drop m ds)
number_within b m n c ds h =
    ap (λ (x : ℕ). x / b ^ c % b ^ n) (number_split b (m + n) c ds)
    ∙ ap (λ (x : ℕ). x % b ^ n) (digits_div (number b (m + n) ds) (below (m + n) c))
    ∙ ap (λ (x : ℕ). x % b ^ n) (number_split b m n ds)
    ∙ digits_mod (number b m ds) (below m n)
  where
    below : (i j : ℕ) → number b j (drop i ds) < b ^ j
    below i j = number_below b j (drop i ds) (λ k l. subst (λ (x : ℕ). x < b) (sym (get_or-drop i ds k 0)) (h (i + k)))

-- digits that are each made of w digits in a smaller base: the number is that of the smaller ones
pub number_regrouped :
    (b w n : ℕ) (ds es : List ℕ) →
    ((k : ℕ) → k < n → get_or ds k 0 ≡ number b w (drop (w * k) es)) →
    number (b ^ w) n ds ≡ number b (w * n) es
number_regrouped b w zero ds es h =
    let e : 0 ≡ w * 0 = omega arith in
    ap (λ (k : ℕ). number b k es) e
number_regrouped b w (suc n) ds es h =
    let e : w * n + w ≡ w * suc n = omega arith in
    ap₂ (λ (x y : ℕ). x * b ^ w + y) (number_regrouped b w n ds es (λ k l. h k (omega arith))) (h n (omega arith))
    ∙ sym (number_split b (w * n) w es)
    ∙ ap (λ (k : ℕ). number b k es) e

-- a number read digit by digit, as a loop does: acc is the number of the first i digits from a place on
pub record ReadTo (b : ℕ) (ds : List ℕ) (at acc i : ℕ) : Type 0 where
  pub is : acc ≡ number b i (drop at ds)
  pub below : acc < b ^ i

module _ {b : ℕ} {ds : List ℕ} {at acc i : ℕ} (r : ReadTo b ds at acc i) where
  pub read_more : {d : ℕ} → d ≡ get_or ds (at + i) 0 → d < b → ReadTo b ds at (acc * b + d) (i + 1)
  read_more {d} e h =
      record {
        is = ap (λ (x : ℕ). acc * b + x) e ∙ number_more b i at acc ds r.is;
        below = below_more b i acc d r.below h;
      }

  pub read_cap : (m : ℕ) → 0 < b → i ≤ m → acc < b ^ m
  read_cap m p h = below_cap b i m acc p h r.below

  pub read_all : (n : ℕ) → i ≡ n → acc ≡ number b n (drop at ds)
  read_all n e = r.is ∙ ap (λ (k : ℕ). number b k (drop at ds)) e
