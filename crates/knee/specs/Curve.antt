-- 02, No. 7, "Damping for the knee itself": the damping at an angle, the question that is put before it is told, and how far it moves.
-- Assumes nothing.
use Rattle.std.specs.Prelude.{ℕ, ◌+◌, ◌-◌, ◌*◌, ◌/◌, ◌≤◌, ◌≡◌, List, [], ◌∷◌, leb, ℤ, pos, negsuc, neg_ℤ, nat_abs, ◌-ℤ◌}
use Rattle.std.specs.Int.Signed.{le_z}
use Rattle.arith.specs.Choice.{pick, both}
use Rattle.arith.specs.Asking.{Question, ask, first_no}
use Rattle.std.specs.declared.result.Result.TheVariants.{Ok}
use Rattle.plan.specs.Counted.{Counted, counted_by}

-- a point of the curve: "(degrees, damping)"
pub record Point : Type 0 where
  pub degrees : ℕ
  pub damping : ℕ

abbrev point : ℕ → ℕ → Point
point degrees damping = record { degrees = degrees; damping = damping }

-- 02, No. 7: "straight lines through (degrees, damping) 0, 12; 5, 14; 10, 17; 20, 25; 40, 49; 60, 73; 90, 97; 130, 112"
abbrev pub points : List Point
points = point 0 12 ∷ point 5 14 ∷ point 10 17 ∷ point 20 25 ∷ point 40 49 ∷ point 60 73 ∷ point 90 97 ∷ point 130 112 ∷ []

-- the straight line from p up to q, at x tenths of a degree, "rounded down"
abbrev pub line_at : Point → Point → ℕ → ℕ
line_at p q x = p.damping + (q.damping - p.damping) * (x - 10 * p.degrees) / (10 * (q.degrees - p.degrees))

-- the curve at x tenths: on the line to the first point that is not before it
abbrev pub curve_at : List Point → ℕ → ℕ
curve_at [] x = 0
curve_at (p ∷ []) x = p.damping
curve_at (p ∷ (q ∷ rest)) x = pick (leb x (10 * q.degrees)) (line_at p q x) (curve_at (q ∷ rest) x)

-- 02, No. 7: "Below 0 the damping is 12. From 0 it comes from" the curve; an angle is "signed, in tenths of a degree"
abbrev pub damping_at : ℤ → ℕ
damping_at (pos x) = curve_at points x
damping_at (negsuc x) = 12

-- 02, No. 7: "-50 to 1,300"
abbrev pub lowest_angle : ℤ
lowest_angle = neg_ℤ (pos 50)

abbrev pub highest_angle : ℤ
highest_angle = pos 1300

-- 02, No. 7: "23 angle outside its range; the crate's only new check, put first in the lookup"
abbrev pub looking_up : ℤ → List Question
looking_up angle = ask 23 (both (le_z lowest_angle angle) (le_z angle highest_angle)) ∷ []

-- the lookup's answer
abbrev pub damping_reply : ℤ → Counted
damping_reply angle = counted_by (first_no (looking_up angle)) (damping_at angle)

-- how far two numbers are apart
abbrev pub apart : ℤ → ℤ → ℕ
apart a b = nat_abs (a -ℤ b)

-- 02, No. 7: "An angle change of k tenths moves the damping by at most 1 plus 12 times k divided by 100, rounded down." Said of the
-- lookup's answers, so of any two angles that it accepts, and in either direction.
abbrev pub MovesLittle : Type 0
MovesLittle =
    (a b : ℤ) (m n : ℕ) →
    damping_reply a ≡ Ok m →
    damping_reply b ≡ Ok n →
    apart (pos m) (pos n) ≤ 1 + 12 * apart a b / 100
