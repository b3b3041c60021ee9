-- Laws of the levels and of the hyperperiod.
-- Assumes nothing.
use Prim.Native.Nat.{ℕ, zero, suc, ◌*◌, ◌/◌, ◌<◌, ◌≤◌, ◌∣◌}
use mathlib.Core.Path.{◌≡◌, sym, subst}
use mathlib.Core.Bool.{true}
use mathlib.Core.List.{List, [], ◌∷◌}
use native.Mathlib.Nat.{not-suc-le-zero, add-le-add, add-mul, mul-le-mul_right, mul_right_comm, le_trans, dvd_refl, dvd_trans, one-dvd, le_of_dvd}
use native.Mathlib.Decide.{dec_le}
use native.Mathlib.Omega.{arith}
use borrow.Author.Tests.{leb-true, le-leb}
use lib.ListN.{length, get_or, drop}
use Rattle.arith.specs.Choice.{every}
use Rattle.arith.proofs.Divisors.{lcm_left, lcm_right, lcm_least, lcm_positive}
use Rattle.arith.proofs.Sums.{sum_of_le}
use Rattle.arith.proofs.Searches.{first_le, first_passes}
use Rattle.plan.specs.declared.Task.{Task}
use Rattle.plan.specs.Times.{whole, task_time}
use Rattle.plan.specs.Levels.{Rising, speed_of, hyperperiod, demand_within, admits, nominal}
use Rattle.plan.specs.Blocks.{no_task}
use Rattle.plan.specs.Questions.{in_range}
use Rattle.plan.specs.Laws.{AdmitsFromNominal, HyperperiodIsLeast}
use Rattle.plan.proofs.TimeLaws.{time_faster, time_slowed}
use Rattle.plan.proofs.Facts.{range_at}

-- a faster speed demands no more, so it admits what a slower one does
pub demand_faster :
    (span r s : ℕ) (ts : List Task) → 0 < r → r ≤ s → demand_within span s ts ≤ demand_within span r ts
demand_faster span r s ts h le =
    sum_of_le (λ (t : Task). task_time s t * (span / t.period)) (λ (t : Task). task_time r t * (span / t.period)) ts
    (λ t. mul-le-mul_right (span / t.period) (time_faster r s (whole t) h le))

-- the plain work is the demand at speed 1, and the demand at a speed covers it
pub demand_covers : (span s : ℕ) (ts : List Task) → 0 < s → demand_within span 1 ts ≤ demand_within span s ts * s
demand_covers span s [] h = omega arith
demand_covers span s (t ∷ ts) h =
    let j : ℕ = span / t.period in
    let one : task_time 1 t * j ≤ task_time s t * j * s =
    subst (λ (x : ℕ). task_time 1 t * j ≤ x) (mul_right_comm (task_time s t) s j) (mul-le-mul_right j (time_slowed s (whole t) h)) in
    subst (λ (x : ℕ). demand_within span 1 (t ∷ ts) ≤ x) (sym (add-mul (task_time s t * j) (demand_within span s ts) s))
    (add-le-add one (demand_covers span s ts h))

-- a speed that admits does the plain work within the hyperperiod
pub admits_covers :
    (ts : List Task) (span work s : ℕ) →
    0 < s →
    span ≡ hyperperiod ts →
    work ≡ demand_within span 1 ts →
    admits ts s ≡ true →
    work ≤ span * s
admits_covers ts span work s h e d a =
    let most : demand_within span s ts ≤ span =
    subst (λ (x : ℕ). demand_within x s ts ≤ x) (sym e) (leb-true (demand_within (hyperperiod ts) s ts) (hyperperiod ts) a) in
    subst (λ (x : ℕ). x ≤ span * s) (sym d) (le_trans (demand_covers span s ts h) (mul-le-mul_right s most))

pub admits_faster : (ts : List Task) (r s : ℕ) → 0 < r → r ≤ s → admits ts r ≡ true → admits ts s ≡ true
admits_faster ts r s h le a =
    let span : ℕ = hyperperiod ts in
    le-leb (demand_within span s ts) span
    (le_trans (demand_faster span r s ts h le) (leb-true (demand_within span r ts) span a))

-- along a rising table a higher level is no slower
pub speed_rises : (speeds : List ℕ) → Rising speeds → (low high : ℕ) → low ≤ high → high < length speeds → speed_of speeds low ≤ speed_of speeds high
speed_rises speeds rising low high le h =
    elim (dec_le high low) [
      | yes p ↦ let e : low ≡ high = omega arith in
          subst (λ (k : ℕ). speed_of speeds low ≤ speed_of speeds k) e (omega arith)
      | no p ↦ omega (arith, rising.faster low high (omega arith) h)
    ]

-- so a level above one that admits admits too
pub admits_higher :
    (speeds : List ℕ) →
    Rising speeds →
    (ts : List Task) (low high : ℕ) →
    low ≤ high →
    high < length speeds →
    admits ts (speed_of speeds low) ≡ true →
    admits ts (speed_of speeds high) ≡ true
admits_higher speeds rising ts low high le h a =
    admits_faster ts (speed_of speeds low) (speed_of speeds high) (rising.positive low (omega arith)) (speed_rises speeds rising low high le h) a

pub admits_from_nominal : (speeds : List ℕ) → Rising speeds → AdmitsFromNominal speeds
admits_from_nominal speeds rising ts level h = (
  first_le (admits ts) speeds level 0 h,
  λ le. admits_higher speeds rising ts (nominal speeds ts) level le h (first_passes (admits ts) speeds 0 (omega arith)),
)

-- every period is above 0
abbrev pub Positive : List Task → Type 0
Positive ts = (i : ℕ) → i < length ts → 0 < (get_or ts i no_task).period

pub range_positive : (ts : List Task) → every in_range ts ≡ true → Positive ts
range_positive ts h i l = (range_at ts i h l).period_low

pub hyperperiod_is_least : HyperperiodIsLeast
hyperperiod_is_least ts pos = (multiple ts, least ts pos)
  where
    multiple : (ts : List Task) (i : ℕ) → i < length ts → (get_or ts i no_task).period ∣ hyperperiod ts
    multiple [] i h = absurd (not-suc-le-zero h)
    multiple (t ∷ ts) zero h = lcm_left t.period (hyperperiod ts)
    multiple (t ∷ ts) (suc i) h =
        dvd_trans (get_or ts i no_task).period (multiple ts i (omega arith)) (lcm_right t.period (hyperperiod ts))

    least :
        (ts : List Task) →
        Positive ts →
        (m : ℕ) →
        ((i : ℕ) → i < length ts → (get_or ts i no_task).period ∣ m) →
        hyperperiod ts ∣ m
    least [] pos m h = one-dvd m
    least (t ∷ ts) pos m h =
        lcm_least t.period (hyperperiod ts) m (pos 0 (omega arith)) (h 0 (omega arith))
        (least ts (λ i l. pos (suc i) (omega arith)) m (λ i l. h (suc i) (omega arith)))

pub hyperperiod_positive : (ts : List Task) → Positive ts → 0 < hyperperiod ts
hyperperiod_positive [] pos = omega arith
hyperperiod_positive (t ∷ ts) pos =
    lcm_positive t.period (hyperperiod ts) (pos 0 (omega arith))
    (hyperperiod_positive ts (λ i l. pos (suc i) (omega arith)))

-- the tasks from one on have a hyperperiod that divides that of all, so it is no greater
pub hyperperiod_from : (ts : List Task) (i : ℕ) → hyperperiod (drop i ts) ∣ hyperperiod ts
hyperperiod_from ts zero = dvd_refl (hyperperiod ts)
hyperperiod_from [] (suc i) = dvd_refl 1
hyperperiod_from (t ∷ ts) (suc i) =
    dvd_trans (hyperperiod (drop i ts)) (hyperperiod_from ts i) (lcm_right t.period (hyperperiod ts))

pub hyperperiod_drop : (ts : List Task) → Positive ts → (i : ℕ) → hyperperiod (drop i ts) ≤ hyperperiod ts
hyperperiod_drop ts pos i = le_of_dvd (hyperperiod_positive ts pos) (hyperperiod_from ts i)
