-- How far the damping moves with the angle. The straight lines rise by at most 12 hundredths of a damping to the next tenth of a degree;
-- rounding down takes less than one from each end.
-- Assumes nothing.
use Prim.Native.Nat.{ℕ, zero, suc, ◌+◌, ◌-◌, ◌*◌, ◌/◌, ◌≤◌, ◌<◌, zero-le}
use mathlib.Core.Path.{◌≡◌, refl, sym, subst, subst₂, ◌∙◌}
use mathlib.Core.Bool.{Bool, true, false, not, cond, true≢false}
use mathlib.Core.List.{List, [], ◌∷◌}
use native.Mathlib.Nat.{add-zero, add-suc}
use native.Mathlib.Decide.{dec_le}
use native.Mathlib.Omega.{arith}
use lib.Dec.{leb, eqb}
use lib.IntN.{ℤ, pos, negsuc, nat_abs}
use lib.Signed.{le_z}
use borrow.Author.Tests.{leb-true, eqb-true, not-false}
use Rattle.arith.specs.Choice.{pick, both}
use Rattle.arith.specs.Ranges.{some_to}
use Rattle.arith.proofs.Tests.{passed, failed, tested, le_yes, le_not, test_le, both_left, both_right}
use Rattle.arith.proofs.RangeLaws.{no_none}
use Rattle.knee.specs.Curve.{Point, points, curve_at, damping_at, lowest_angle, highest_angle, damping_reply, apart, MovesLittle}
use Rattle.std.specs.declared.result.Result.TheVariants.{Ok}
use Rattle.plan.specs.Counted.{counted_by}

-- 1,200 times the curve, before rounding: a whole number at every tenth of a degree
abbrev fine_line : Point → Point → ℕ → ℕ
fine_line p q x = 1200 * p.damping + (q.damping - p.damping) * (x - 10 * p.degrees) * (120 / (q.degrees - p.degrees))

abbrev fine_at : List Point → ℕ → ℕ
fine_at [] x = 0
fine_at (p ∷ []) x = 1200 * p.damping
fine_at (p ∷ (q ∷ rest)) x = pick (leb x (10 * q.degrees)) (fine_line p q x) (fine_at (q ∷ rest) x)

-- at x tenths: rounded down it is the curve, and to the next tenth it rises by at most 144
abbrev gentle_at : ℕ → Bool
gentle_at x =
    both (eqb (curve_at points x) (fine_at points x / 1200))
    (both (leb (fine_at points x) (fine_at points (suc x))) (leb (fine_at points (suc x)) (fine_at points x + 144)))

-- tried at every tenth
gentle : some_to 1301 (λ x. not (gentle_at x)) ≡ false
gentle = refl

pub record Gentle (f g : ℕ → ℕ) (x : ℕ) : Type 0 where
  pub rounded : f x ≡ g x / 1200
  pub rising : g x ≤ g (suc x)
  pub slope : g (suc x) ≤ g x + 144

gentle_at_lem : (x : ℕ) → x < 1301 → Gentle (curve_at points) (fine_at points) x
gentle_at_lem x h = record {
  rounded = eqb-true (curve_at points x) (fine_at points x / 1200) (both_left same rises passes);
  rising = leb-true (fine_at points x) (fine_at points (suc x)) (both_left rise little (both_right same rises passes));
  slope = leb-true (fine_at points (suc x)) (fine_at points x + 144) (both_right rise little (both_right same rises passes));
}
  where
    same : Bool
    same = eqb (curve_at points x) (fine_at points x / 1200)

    rise : Bool
    rise = leb (fine_at points x) (fine_at points (suc x))

    little : Bool
    little = leb (fine_at points (suc x)) (fine_at points x + 144)

    rises : Bool
    rises = both rise little

    passes : gentle_at x ≡ true
    passes = not-false (gentle_at x) (no_none (λ (k : ℕ). not (gentle_at k)) 1301 gentle x h)

-- what the rise to the next tenth says of k tenths
module _ (f g : ℕ → ℕ) (each : (x : ℕ) → x < 1301 → Gentle f g x) where
  fine_moves : (x k : ℕ) → x + k < 1301 → (g x ≤ g (x + k)) × (g (x + k) ≤ g x + 144 * k)
  fine_moves x zero h = subst (λ (y : ℕ). (g x ≤ g y) × (g y ≤ g x + 144 * 0)) (sym (add-zero x)) (omega arith, omega arith)
  fine_moves x (suc k) h =
      let sofar = fine_moves x k (omega arith) in
      let step = each (x + k) (omega arith) in
      subst (λ (y : ℕ). (g x ≤ g y) × (g y ≤ g x + 144 * suc k)) (sym (add-suc x k))
      (omega (arith, sofar.0, step.rising), omega (arith, sofar.1, step.slope))

  moves : (x k : ℕ) → x + k < 1301 → (f x ≤ f (x + k)) × (f (x + k) ≤ f x + (1 + 12 * k / 100))
  moves x k h =
      let fine = fine_moves x k h in
      let here = (each x (omega arith)).rounded in
      let there = (each (x + k) h).rounded in
      (omega (arith, fine.0, here, there), omega (arith, fine.1, here, there))

-- two numbers are at most k apart
pub record Near (x y k : ℕ) : Type 0 where
  pub over : x ≤ y + k
  pub under : y ≤ x + k

-- so of two angles from 0 on that are at most k tenths apart
curve_moves : (x y k : ℕ) → x < 1301 → y < 1301 → Near x y k → Near (curve_at points x) (curve_at points y) (1 + 12 * k / 100)
curve_moves x y k hx hy close =
    elim (dec_le x y) [
      | yes h ↦ up x y hy h close.under
      | no h ↦ let turned = up y x hx (omega arith) close.over in record { over = turned.under; under = turned.over }
    ]
  where
    up : (x y : ℕ) → y < 1301 → x ≤ y → y ≤ x + k → Near (curve_at points x) (curve_at points y) (1 + 12 * k / 100)
    up x y h rise close =
        let same : x + (y - x) ≡ y = omega arith in
        let moved = subst (λ (z : ℕ). (curve_at points x ≤ curve_at points z) × (curve_at points z ≤ curve_at points x + (1 + 12 * (y - x) / 100))) same
        (moves (curve_at points) (fine_at points) gentle_at_lem x (y - x) (omega arith)) in
        record { over = omega (arith, moved.0); under = omega (arith, moved.1) }

-- the curve is highest at its end
pub curve_most : (x : ℕ) → x < 1301 → curve_at points x ≤ 112
curve_most x h =
    let same : x + (1300 - x) ≡ 1300 = omega arith in
    subst (λ (z : ℕ). curve_at points x ≤ curve_at points z) same (moves (curve_at points) (fine_at points) gentle_at_lem x (1300 - x) (omega arith)).0

-- how far two signed numbers are apart
pub data Apart (x y d : ℕ) : Type 0 where
  rises : x ≤ y → d ≡ y - x → Apart x y d
  falls : y ≤ x → d ≡ x - y → Apart x y d

apart_from_0 : (x y : ℕ) → Apart x y (apart (pos x) (pos y))
apart_from_0 x zero = falls zero-le (omega arith)
apart_from_0 x (suc y) =
    elim (test_le (suc x) (suc y)) as (λ t _. Apart x (suc y) (nat_abs (cond t (negsuc (suc y - suc x)) (pos (x - suc y))))) [
      | le_yes h ↦ rises (omega arith) (omega arith)
      | le_not h ↦ falls (omega arith) (omega arith)
    ]

near_apart : {m n k : ℕ} → Near m n k → apart (pos m) (pos n) ≤ k
near_apart {m} {n} close =
    elim (apart_from_0 m n) [
      | rises o e ↦ omega (arith, e, close.under)
      | falls o e ↦ omega (arith, e, close.over)
    ]

-- an angle below 0 counts as 0
abbrev from0 : ℤ → ℕ
from0 (pos x) = x
from0 (negsuc x) = 0

counted : (a b : ℤ) → Near (from0 a) (from0 b) (apart a b)
counted (pos x) (pos y) =
    elim (apart_from_0 x y) [
      | rises o e ↦ record { over = omega (arith, e); under = omega (arith, e) }
      | falls o e ↦ record { over = omega (arith, e); under = omega (arith, e) }
    ]
counted (pos x) (negsuc y) = record { over = omega arith; under = zero-le }
counted (negsuc x) (pos zero) = record { over = zero-le; under = zero-le }
counted (negsuc x) (pos (suc y)) = record { over = zero-le; under = omega arith }
counted (negsuc x) (negsuc y) = record { over = zero-le; under = zero-le }

damping_from_0 : (a : ℤ) → damping_at a ≡ curve_at points (from0 a)
damping_from_0 (pos x) = refl
damping_from_0 (negsuc x) = refl

-- what an answer tells: its damping is the curve's, and the angle is in range
in_range_lem : (a : ℤ) → le_z a highest_angle ≡ true → from0 a < 1301
in_range_lem (pos x) h = omega (arith, leb-true x 1300 h)
in_range_lem (negsuc x) h = omega arith

pub record Told (a : ℤ) (m : ℕ) : Type 0 where
  pub is : curve_at points (from0 a) ≡ m
  pub below : from0 a < 1301

told : (a : ℤ) (m : ℕ) → damping_reply a ≡ Ok m → Told a m
told a m =
    elim (tested (both (le_z lowest_angle a) (le_z a highest_angle)))
    as (λ t _. both (le_z lowest_angle a) (le_z a highest_angle) ≡ t → counted_by (pick t 0 23) (damping_at a) ≡ Ok m → Told a m) [
      | passed ↦ λ e h. record { is = sym (damping_from_0 a) ∙ cc; below = in_range_lem a (both_right (le_z lowest_angle a) (le_z a highest_angle) e) }
      | failed ↦ λ e h. absurd (true≢false cc)
    ]
    refl

pub moves_little : MovesLittle
moves_little a b m n p q =
    let x = told a m p in
    let y = told b n q in
    near_apart
    (subst₂ (λ (u v : ℕ). Near u v (1 + 12 * apart a b / 100)) x.is y.is
    (curve_moves (from0 a) (from0 b) (apart a b) x.below y.below (counted a b)))
