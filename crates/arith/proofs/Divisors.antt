-- The laws of the greatest common divisor and of the least common multiple.
-- Assumes nothing.
use Prim.Native.Nat.{ℕ, zero, suc, ◌+◌, ◌*◌, ◌/◌, ◌%◌, ◌<◌, ◌≤◌, ◌∣◌}
use mathlib.Core.Path.{◌≡◌, refl, sym, subst, ap, ◌∙◌}
use native.Mathlib.Nat.{le_of_lt, lt_of_le_of_lt, not-suc-le-zero, mul-le-mul_left, mul-lt-mul_of_pos_right, mul_assoc, mul_comm, mul-pos, zero-mul, add-mul}
use native.Mathlib.Nat.{mod-lt, mod-add-div', mul-div_cancel', div-mul_cancel, pos_of_dvd_of_pos}
use native.Mathlib.Nat.{dvd_refl, dvd-zero, dvd_antisymm, dvd-mod_iff, dvd_of_mod-eq-zero, dvd-mul_left, dvd-mul_right, mul-dvd-mul_left, dvd_of_mul-dvd-mul_right}
use native.Mathlib.Omega.{arith}
use lib.Arith.{digits_mod}
use Rattle.arith.specs.Divisor.{gcd_within, gcd, lcm}

-- steps beyond b change nothing
enough : (m n a b : ℕ) → b ≤ m → b ≤ n → gcd_within m a b ≡ gcd_within n a b
enough zero zero a b h k = refl
enough zero (suc n) a zero h k = refl
enough zero (suc n) a (suc b) h k = absurd (not-suc-le-zero h)
enough (suc m) zero a zero h k = refl
enough (suc m) zero a (suc b) h k = absurd (not-suc-le-zero k)
enough (suc m) (suc n) a zero h k = refl
enough (suc m) (suc n) a (suc b) h k =
    let l : a % suc b < suc b = mod-lt a (omega arith) in
    enough m n (suc b) (a % suc b) (omega arith) (omega arith)

pub gcd_zero : (a : ℕ) → gcd a 0 ≡ a
unfolding gcd
gcd_zero a = refl

pub gcd_step : (a b : ℕ) → 0 < b → gcd a b ≡ gcd b (a % b)
unfolding gcd
gcd_step a zero h = absurd (not-suc-le-zero h)
gcd_step a (suc b) h =
    let l : a % suc b < suc b = mod-lt a h in
    enough b (a % suc b) (suc b) (a % suc b) (omega arith) (omega arith)

-- what holds along Euclid's steps holds of the result
euclid :
    (P : ℕ → ℕ → ℕ → Type 0) →
    ((a : ℕ) → P a 0 a) →
    ((a b g : ℕ) → 0 < b → P b (a % b) g → P a b g) →
    (n a b : ℕ) →
    b ≤ n →
    P a b (gcd a b)
euclid P base step zero a zero h = subst (λ (g : ℕ). P a 0 g) (sym (gcd_zero a)) (base a)
euclid P base step zero a (suc b) h = absurd (not-suc-le-zero h)
euclid P base step (suc n) a zero h = subst (λ (g : ℕ). P a 0 g) (sym (gcd_zero a)) (base a)
euclid P base step (suc n) a (suc b) h =
    let l : a % suc b < suc b = mod-lt a (omega arith) in
    subst (λ (g : ℕ). P a (suc b) g) (sym (gcd_step a (suc b) (omega arith)))
    (step a (suc b) (gcd (suc b) (a % suc b)) (omega arith)
    (euclid P base step n (suc b) (a % suc b) (omega arith)))

-- it divides both
pub gcd_divides : (a b : ℕ) → (gcd a b ∣ a) × (gcd a b ∣ b)
gcd_divides a b =
    euclid (λ a b g. (g ∣ a) × (g ∣ b)) (λ a. (dvd_refl a, dvd-zero a))
    (λ a b g h p. ((dvd-mod_iff g p.0).0 p.1, p.0)) b a b (omega arith)

-- and every common divisor divides it
pub gcd_greatest : (c a b : ℕ) → c ∣ a → c ∣ b → c ∣ gcd a b
gcd_greatest c a b =
    euclid (λ a b g. c ∣ a → c ∣ b → c ∣ g) (λ a p q. p)
    (λ a b g h k p q. k q ((dvd-mod_iff c q).1 p)) b a b (omega arith)

pub gcd_positive : (a b : ℕ) → 0 < a → 0 < gcd a b
gcd_positive a b h = pos_of_dvd_of_pos (gcd_divides a b).0 h

-- a common factor comes out of a remainder, and so of the greatest common divisor
mod_scaled : (a b k : ℕ) → 0 < b → 0 < k → a * k % (b * k) ≡ a % b * k
mod_scaled a b k h p =
    let e : a * k ≡ a / b * (b * k) + a % b * k =
    ap (λ (x : ℕ). x * k) (sym (mod-add-div' a b)) ∙ add-mul (a % b) (a / b * b) k ∙ omega (arith, mul_assoc (a / b) b k) in
    ap (λ (x : ℕ). x % (b * k)) e ∙ digits_mod (a / b) (mul-lt-mul_of_pos_right (mod-lt a h) p)

gcd_scaled : (k : ℕ) → 0 < k → (a b : ℕ) → gcd (a * k) (b * k) ≡ gcd a b * k
gcd_scaled k p a b =
    euclid (λ a b g. gcd (a * k) (b * k) ≡ g * k)
    (λ a. ap (λ (x : ℕ). gcd (a * k) x) (zero-mul k) ∙ gcd_zero (a * k))
    (λ a b g h e. gcd_step (a * k) (b * k) (mul-pos h p) ∙ ap (λ (x : ℕ). gcd (b * k) x) (mod_scaled a b k h p) ∙ e)
    b a b (omega arith)

-- the least common multiple is a multiple of both
pub lcm_left : (a b : ℕ) → a ∣ lcm a b
unfolding lcm
lcm_left a b =
    let g : ℕ = gcd a b in
    subst (λ (x : ℕ). a ∣ x)
    (ap (λ (x : ℕ). x * (b / g)) (sym (div-mul_cancel g (gcd_divides a b).0))
    ∙ mul_assoc (a / g) g (b / g)
    ∙ ap (λ (x : ℕ). a / g * x) (mul-div_cancel' g (gcd_divides a b).1))
    (dvd-mul_right a (b / g))

pub lcm_right : (a b : ℕ) → b ∣ lcm a b
unfolding lcm
lcm_right a b = dvd-mul_left b (a / gcd a b)

-- and every common multiple is a multiple of it
pub lcm_least : (a b m : ℕ) → 0 < a → a ∣ m → b ∣ m → lcm a b ∣ m
unfolding lcm
lcm_least a b zero h p q = dvd-zero (a / gcd a b * b)
lcm_least a b (suc n) h p q =
    let m : ℕ = suc n in
    let g : ℕ = gcd a b in
    let u : a * b ∣ gcd a b * m =
    subst (λ (x : ℕ). a * b ∣ x) (gcd_scaled m (omega arith) a b)
    (gcd_greatest (a * b) (a * m) (b * m) (mul-dvd-mul_left b a q)
    (subst (λ (x : ℕ). x ∣ b * m) (mul_comm b a) (mul-dvd-mul_left a b p))) in
    let e : a * b ≡ a / g * b * g =
    ap (λ (x : ℕ). x * b) (sym (div-mul_cancel g (gcd_divides a b).0))
    ∙ mul_assoc (a / g) g b
    ∙ ap (λ (x : ℕ). a / g * x) (mul_comm g b)
    ∙ sym (mul_assoc (a / g) b g) in
    dvd_of_mul-dvd-mul_right (a / g * b) (gcd_positive a b h)
    (subst (λ (x : ℕ). x ∣ m * g) e (subst (λ (x : ℕ). a * b ∣ x) (mul_comm g m) u))

pub lcm_positive : (a b : ℕ) → 0 < a → 0 < b → 0 < lcm a b
unfolding lcm
lcm_positive a b h k =
    let g : ℕ = gcd a b in
    mul-pos (pos_of_dvd_of_pos {m = a / g} {n = a} (subst (λ (x : ℕ). a / g ∣ x) (div-mul_cancel g (gcd_divides a b).0) (dvd-mul_right (a / g) g)) h) k

-- a multiple of a number is their least common multiple
pub lcm_multiple : (a b : ℕ) → 0 < a → b % a ≡ 0 → b ≡ lcm a b
lcm_multiple a b h e = dvd_antisymm (lcm_right a b) (lcm_least a b b h (dvd_of_mod-eq-zero a e) (dvd_refl b))

-- a product of two numbers below a bound is below its square
pub product_below : (k a b : ℕ) → a < k → b < k → a * b < k * k
product_below k a b ha hb = lt_of_le_of_lt (mul-le-mul_left a (le_of_lt hb)) (mul-lt-mul_of_pos_right ha (omega arith))

pub lcm_of : (a b g : ℕ) → g ≡ gcd a b → a / g * b ≡ lcm a b
unfolding lcm
lcm_of a b g e = ap (λ (x : ℕ). a / x * b) e
