-- Jobs of two tasks that arrive together, one task's period being a multiple of the other's: the shorter's is the more urgent.
-- Assumes nothing.
use Prim.Native.Nat.{ℕ, ◌+◌, ◌*◌, ◌/◌, ◌%◌, ◌≤◌, ◌<◌}
use mathlib.Core.Path.{◌≡◌, refl, subst, ap, ◌∙◌}
use native.Mathlib.Nat.{mul-mod_left, mul_assoc, mul-le-mul_right}
use native.Mathlib.Decide.{dec_le}
use native.Mathlib.Omega.{arith}
use Rattle.schedule.specs.PlainSchedule.{Timing}
use Rattle.schedule.proofs.Urgency.{MoreUrgent, earlier, lower}
use Rattle.schedule.proofs.Periods.{multiple_last}

-- a multiple of a multiple is a multiple
module _ (p q : ℕ) (p-positive : 0 < p) (q-positive : 0 < q) (multiple : q % p ≡ 0) where
  multiples : q / p * p ≡ q
  multiples = multiple_last p p-positive q multiple

  pub multiple_of : (t : ℕ) → t % q ≡ 0 → t % p ≡ 0
  multiple_of t h =
      let whole : t / q * q ≡ t = multiple_last q q-positive t h in
      let parts : t / q * (q / p) * p ≡ t / q * (q / p * p) = mul_assoc (t / q) (q / p) p in
      subst (λ (x : ℕ). x % p ≡ 0) (parts ∙ (ap (λ (x : ℕ). t / q * x) multiples ∙ whole)) (mul-mod_left (t / q * (q / p)) p)

  -- and it is no smaller
  pub multiple_most : p ≤ q
  multiple_most =
      elim (dec_le 1 (q / p)) [
        | yes h ↦ omega (arith, mul-le-mul_right p h, multiples)
        | no h ↦ let z : q / p ≡ 0 = omega arith in absurd (omega (arith, multiples, ap (λ (x : ℕ). x * p) z))
      ]

-- two tasks, the second's period a multiple of the first's, and the first of the lower number where the periods are equal
pub record Before (τ : Timing) (i j : ℕ) : Type 0 where
  pub first_positive : 0 < τ.period i
  pub second_positive : 0 < τ.period j
  pub multiple : τ.period j % τ.period i ≡ 0
  pub lower_number : τ.period i ≡ τ.period j → i < j

module _ {τ : Timing} {i j : ℕ} (b : Before τ i j) (t : ℕ) where
  -- where a job of the second arrives, one of the first does
  pub arrives_too : t % τ.period j ≡ 0 → t % τ.period i ≡ 0
  arrives_too = multiple_of (τ.period i) (τ.period j) b.first_positive b.second_positive b.multiple t

  -- and it is more urgent
  pub urgent_before : MoreUrgent τ (record { task = i; arrival = t }) (record { task = j; arrival = t })
  urgent_before =
      let most : τ.period i ≤ τ.period j = multiple_most (τ.period i) (τ.period j) b.first_positive b.second_positive b.multiple in
      elim (dec_le (τ.period j) (τ.period i)) [
        | yes h ↦ let same : τ.period i ≡ τ.period j = omega arith in lower (ap (λ (x : ℕ). t + x) same) refl (b.lower_number same)
        | no h ↦ earlier (omega arith)
      ]
