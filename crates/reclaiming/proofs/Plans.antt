-- What is known of an accepted plan: its levels have speeds above 0, its tasks are in range, it is one that the plain schedule's theorem is
-- about, and an allotment is at most its period.
-- Assumes nothing.
use Prim.Native.Nat.{ℕ, ◌*◌, ◌/◌, ◌<◌, ◌≤◌}
use mathlib.Core.Path.{◌≡◌, subst, ap, ◌∙◌}
use mathlib.Core.List.{List}
use native.Mathlib.Nat.{div_self, mod-eq-zero_of_dvd, mul-one}
use native.Mathlib.Omega.{arith}
use borrow.Author.Tests.{leb-true}
use lib.ListN.{length, get_or}
use Rattle.arith.proofs.Sums.{sum_of_places, sum_to_term}
use Rattle.arith.proofs.Searches.{first_passes}
use Rattle.plan.specs.declared.Task.{Task}
use Rattle.plan.specs.Times.{whole, task_time}
use Rattle.plan.specs.Levels.{Rising, hyperperiod, demand_within, admits, nominal}
use Rattle.plan.specs.Blocks.{no_task}
use Rattle.plan.proofs.TimeLaws.{time_some}
use Rattle.plan.proofs.Facts.{FineList, InRange, range_at}
use Rattle.plan.proofs.LevelLaws.{Positive, range_positive, hyperperiod_is_least, hyperperiod_positive}
use Rattle.schedule.specs.PlainSchedule.{Timing}
use Rattle.schedule.specs.Feasibility.{Fitting}
use Rattle.schedule.proofs.Demand.{demand_fits}
use Rattle.reclaiming.specs.Allotments.{timing}
use Rattle.reclaiming.proofs.Fine.{nominal_speed}

module _ (speeds : List ℕ) (ts : List Task) (fine : FineList speeds (length ts) ts) (rising : Rising speeds) where
  pub nominal_positive : 0 < nominal_speed speeds ts
  nominal_positive = rising.positive (nominal speeds ts) fine.tasks.admitted

  pub task_range : (i : ℕ) → i < length ts → InRange (get_or ts i no_task)
  task_range i l = range_at ts i fine.tasks.ranges l

  positive : Positive ts
  positive = range_positive ts fine.tasks.ranges

  -- over the hyperperiod, the allotments fit
  pub plan_fits : Fitting (timing speeds ts) (hyperperiod ts)
  plan_fits =
      let span : ℕ = hyperperiod ts in
      let speed : ℕ = nominal_speed speeds ts in
      let load : demand_within span speed ts ≤ span =
      leb-true (demand_within span speed ts) span (first_passes (admits ts) speeds 0 fine.tasks.admitted) in
      record {
        positive = hyperperiod_positive ts positive;
        periods = positive;
        allotments = λ i l. time_some speed (whole (get_or ts i no_task)) nominal_positive (task_range i l).worst_low;
        multiple = λ i l. mod-eq-zero_of_dvd (get_or ts i no_task).period ((hyperperiod_is_least ts positive).0 i l);
        sum = subst (λ (n : ℕ). n ≤ span) (sum_of_places (λ (t : Task). task_time speed t * (span / t.period)) ts no_task) load;
      }

  -- so each fits into its period
  pub allotment_most : (i : ℕ) → i < length ts → (timing speeds ts).allotment i ≤ (timing speeds ts).period i
  allotment_most i l =
      let τ : Timing = timing speeds ts in
      let p : ℕ = τ.period i in
      let one : p / p ≡ 1 = div_self (positive i l) in
      let e : τ.allotment i * (p / p) ≡ τ.allotment i = ap (λ (n : ℕ). τ.allotment i * n) one ∙ mul-one (τ.allotment i) in
      omega (
        arith,
        sum_to_term (length ts) (λ j. τ.allotment j * (p / τ.period j)) i l,
        demand_fits τ (hyperperiod ts) plan_fits p,
      )

  pub allotment_short : (i : ℕ) → i < length ts → (timing speeds ts).allotment i ≤ 65535
  allotment_short i l = omega (arith, allotment_most i l, (task_range i l).period_high)
