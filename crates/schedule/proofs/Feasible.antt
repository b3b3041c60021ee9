-- The feasibility theorem: where the demand of a hyperperiod fits, no job of the plain schedule is late.
-- Assumes nothing.
use Prim.Native.Nat.{ℕ, zero, suc, ◌+◌, ◌≤◌, ◌<◌}
use mathlib.Core.Path.{◌≡◌, sym, subst}
use mathlib.Core.List.{List}
use mathlib.Core.Logic.{◌⊎◌, inl, inr}
use native.Mathlib.Omega.{arith}
use Rattle.arith.specs.Sum.{sum_to}
use Rattle.schedule.specs.PlainSchedule.{Timing, Pending, serve, arrive, canonical_at}
use Rattle.schedule.specs.Feasibility.{Fitting, NeverLate}
use Rattle.schedule.proofs.Members.{all_in, in_all}
use Rattle.schedule.proofs.Queue.{Positive}
use Rattle.schedule.proofs.Invariant.{Open, Good, canonical_good, canonical_step}
use Rattle.schedule.proofs.Demand.{due, coming, demand_fits, coming_fits, due_opened, due_arrive, due_serve, none_late}

-- every entry of a good queue has ticks left
pub good_positive : (τ : Timing) (t : ℕ) (q : List Pending) → Good τ t q → Positive q
good_positive τ t q g = in_all (λ (e : Pending). 0 < e.remaining) q (λ e m. (all_in (Open τ t) q g.entries e m).some)

module _ (τ : Timing) (h : ℕ) (f : Fitting τ h) where
  -- what must be done by d, and the ticks gone by, never exceed d
  fits : (d t : ℕ) → t ≤ d → due τ d (canonical_at τ t).pending + sum_to τ.count (coming τ d t) + t ≤ d
  fits d zero k = omega (arith, due_opened τ f.periods d, demand_fits τ h f d)
  fits d (suc t) k =
      subst (λ (q : List Pending). due τ d q + sum_to τ.count (coming τ d (suc t)) + suc t ≤ d) (sym (canonical_step τ t))
      (step (due_serve τ d q g.sorted (good_positive τ t q g)) (fits d t (omega arith)))
    where
      q : List Pending
      q = (canonical_at τ t).pending

      g : Good τ t q
      g = canonical_good τ f.allotments t

      step : (due τ d (serve q) ≡ 0) ⊎ (suc (due τ d (serve q)) ≡ due τ d q) → due τ d q + sum_to τ.count (coming τ d t) + t ≤ d →
          due τ d (arrive τ (suc t) τ.count (serve q)) + sum_to τ.count (coming τ d (suc t)) + suc t ≤ d
      step (inl z) w = omega (arith, due_arrive τ f.periods d t (serve q), coming_fits τ h f d t k)
      step (inr z) w = omega (arith, due_arrive τ f.periods d t (serve q))

  -- at t itself nothing is due any more: every open job has its deadline ahead of it
  pub never_late : NeverLate τ
  never_late t =
      none_late τ t (canonical_at τ t).pending (good_positive τ t (canonical_at τ t).pending (canonical_good τ f.allotments t))
      (omega (arith, fits t t (omega arith)))
