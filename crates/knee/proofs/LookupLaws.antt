-- What the lookup answers by the place of an angle: below its range, above it, below 0, and from 0 on.
-- Assumes nothing.
use Prim.Native.Nat.{◌<◌}
use mathlib.Core.Path.{◌≡◌, sym, subst, ap}
use mathlib.Core.Bool.{Bool, true, false, true≢false}
use native.Mathlib.Omega.{arith}
use lib.Dec.{T}
use lib.IntN.{ℤ, pos, negsuc, nat_abs}
use lib.Signed.{lt_z, non_neg}
use mir.Syntax.{w32}
use mir.Val.{SFits, of_z, to_z}
use mir.ValLaws.{to_z-of_z}
use borrow.Author.Tests.{ltb-true, ltb-false, le-leb, lt-leb}
use Rattle.arith.specs.Choice.{pick, both}
use Rattle.knee.specs.Curve.{points, curve_at, lowest_angle, highest_angle, damping_reply}
use Rattle.std.specs.declared.result.Result.TheVariants.{Ok}
use Rattle.plan.specs.Counted.{refused, counted_by}

low : (z : ℤ) → lt_z z lowest_angle ≡ true → refused 23 ≡ damping_reply z
low (pos x) h = absurd (true≢false (sym h))
low (negsuc x) h = ap (λ (t : Bool). counted_by (pick (both t true) 0 23) 12) (sym (lt-leb x 49 (ltb-true 49 x h)))

high : (z : ℤ) → lt_z highest_angle z ≡ true → refused 23 ≡ damping_reply z
high (pos x) h = ap (λ (t : Bool). counted_by (pick t 0 23) (curve_at points x)) (sym (lt-leb x 1300 (ltb-true 1300 x h)))
high (negsuc x) h = absurd (true≢false (sym h))

negative : (z : ℤ) → lt_z z lowest_angle ≡ false → lt_z z (pos 0) ≡ true → Ok 12 ≡ damping_reply z
negative (pos x) l h = absurd (omega (arith, ltb-true x 0 h))
negative (negsuc x) l h = ap (λ (t : Bool). counted_by (pick (both t true) 0 23) 12) (sym (le-leb x 49 (ltb-false 49 x l)))

-- from 0 on an angle is its count of tenths
pub record FromZero (z : ℤ) (read : ℤ) : Type 0 where
  pub not_below : T (non_neg read)
  pub in_table : nat_abs read < 1301
  pub answer : Ok (curve_at points (nat_abs read)) ≡ damping_reply z

positive : (z : ℤ) → lt_z highest_angle z ≡ false → lt_z z (pos 0) ≡ false → FromZero z z
positive (pos x) l h = record {
  not_below = tt;
  in_table = omega (arith, ltb-false 1300 x l);
  answer = ap (λ (t : Bool). counted_by (pick t 0 23) (curve_at points x)) (sym (le-leb x 1300 (ltb-false 1300 x l)));
}
positive (negsuc x) l h = absurd (true≢false h)

-- the code tests an angle as it reads it from its bits
module _ (z : ℤ) (fits : SFits w32 z) where
  abbrev read : ℤ
  read = to_z w32 (of_z w32 z)

  told : (test : ℤ → Bool) {b : Bool} → test read ≡ b → test z ≡ b
  told test {b} e = subst (λ (x : ℤ). test x ≡ b) (to_z-of_z w32 z fits) e

  pub below_range : lt_z read lowest_angle ≡ true → refused 23 ≡ damping_reply z
  below_range h = low z (told (λ (x : ℤ). lt_z x lowest_angle) h)

  pub above_range : lt_z highest_angle read ≡ true → refused 23 ≡ damping_reply z
  above_range h = high z (told (λ (x : ℤ). lt_z highest_angle x) h)

  pub below_zero : lt_z read lowest_angle ≡ false → lt_z read (pos 0) ≡ true → Ok 12 ≡ damping_reply z
  below_zero l h = negative z (told (λ (x : ℤ). lt_z x lowest_angle) l) (told (λ (x : ℤ). lt_z x (pos 0)) h)

  pub from_zero : lt_z highest_angle read ≡ false → lt_z read (pos 0) ≡ false → FromZero z read
  from_zero l h =
      subst (FromZero z) (sym (to_z-of_z w32 z fits)) (positive z (told (λ (x : ℤ). lt_z highest_angle x) l) (told (λ (x : ℤ). lt_z x (pos 0)) h))
