-- Laws of the ticks to the next arrival.
-- Assumes nothing.
use Prim.Native.Nat.{ℕ, suc, ◌+◌, ◌-◌, ◌%◌, ◌≤◌, ◌<◌}
use mathlib.Core.Path.{◌≡◌, sym, ap, ◌∙◌}
use mathlib.Core.Bool.{true, false, false≢true}
use native.Mathlib.Nat.{mod-add-div', mod-lt}
use native.Mathlib.Decide.{dec_le}
use native.Mathlib.Omega.{arith}
use borrow.Author.Tests.{eq-eqb, ne_eqb}
use Rattle.arith.specs.Ranges.{some_to}
use Rattle.arith.proofs.RangeLaws.{Attained, least_at, least_le, least_less, none_no, some_yes}
use Rattle.schedule.specs.PlainSchedule.{Timing}
use Rattle.schedule.proofs.Periods.{next_multiple, mod_next, mod_on}
use Rattle.schedule.proofs.Drain.{Quiet}
use Rattle.reclaiming.specs.Orders.{next_arrival}
use Rattle.reclaiming.specs.Passes.{arrives_at}

-- one period: no multiple after t comes sooner than p - t % p ticks later
next_least : (p : ℕ) → 0 < p → (t k : ℕ) → 0 < k → (t + k) % p ≡ 0 → p - t % p ≤ k
next_least p positive t k h e = omega (arith, next_multiple p positive t (t + k) (omega arith) e, mod-add-div' t p)

-- the ticks to the next arrival
module _ (τ : Timing) (some : 0 < τ.count) (periods : (i : ℕ) → i < τ.count → 0 < τ.period i) (t : ℕ) where
  -- the task whose arrival is the next
  first_due : Attained τ.count (λ i. τ.period i - t % τ.period i)
  first_due = least_at τ.count (λ i. τ.period i - t % τ.period i) some

  pub next_positive : 1 ≤ next_arrival τ t
  next_positive =
      let a : Attained τ.count (λ i. τ.period i - t % τ.period i) = first_due in
      omega (arith, a.is, mod-lt t (periods a.number a.below))

  -- an arrival after t comes no sooner
  pub next_soonest : (i k : ℕ) → i < τ.count → 0 < k → (t + k) % τ.period i ≡ 0 → next_arrival τ t ≤ k
  next_soonest i k h pos e =
      omega (
        arith,
        least_le τ.count (λ j. τ.period j - t % τ.period j) i h,
        next_least (τ.period i) (periods i h) t k pos e,
      )

  -- so nothing arrives before
  pub next_quiet : (d : ℕ) → d ≤ next_arrival τ t → Quiet τ τ.count t d
  next_quiet d h i k below pos less e = omega (arith, next_soonest i k below pos e)

  -- at the next arrival some task has one, and before it none
  pub next_arrives : (d : ℕ) → d ≡ next_arrival τ t → some_to τ.count (arrives_at τ (t + d)) ≡ true
  next_arrives d h =
      let a : Attained τ.count (λ i. τ.period i - t % τ.period i) = first_due in
      let e : d ≡ τ.period a.number - t % τ.period a.number = h ∙ a.is in
      some_yes (arrives_at τ (t + d)) τ.count a.number a.below
      (eq-eqb ((t + d) % τ.period a.number) 0
      (ap (λ (x : ℕ). (t + x) % τ.period a.number) e ∙ mod_next (τ.period a.number) (periods a.number a.below) t))

  pub before_next : (d : ℕ) → 0 < d → d < next_arrival τ t → some_to τ.count (arrives_at τ (t + d)) ≡ false
  before_next d pos h =
      none_no (arrives_at τ (t + d)) τ.count
      (λ i k. ne_eqb ((t + d) % τ.period i) 0 (λ e. omega (arith, next_soonest i d k pos e)))

  pub not_next : (d : ℕ) → d ≤ next_arrival τ t → some_to τ.count (arrives_at τ (t + d)) ≡ false → d < next_arrival τ t
  not_next d h e =
      elim (dec_le (suc d) (next_arrival τ t)) [
        | yes k ↦ k
        | no k ↦ absurd (false≢true (sym e ∙ next_arrives d (omega arith)))
      ]

  -- before it the distance falls tick by tick
  pub next_on : (d : ℕ) → d < next_arrival τ t → next_arrival τ (t + d) ≡ next_arrival τ t - d
  next_on d h =
      least_less τ.count (λ i. τ.period i - t % τ.period i) (λ i. τ.period i - (t + d) % τ.period i) d some each
    where
      each : (i : ℕ) → i < τ.count → τ.period i - (t + d) % τ.period i ≡ τ.period i - t % τ.period i - d
      each i k =
          let e : (t + d) % τ.period i ≡ t % τ.period i + d =
          mod_on (τ.period i) (periods i k) t d (omega (arith, least_le τ.count (λ j. τ.period j - t % τ.period j) i k)) in
          omega arith
