-- A plan that fits exists, and its plain schedule is computed: the theorems here are not empty.
-- Assumes nothing.
use Prim.Native.Nat.{ℕ, zero, suc, ◌+◌, ◌%◌, ◌<◌}
use mathlib.Core.Path.{◌≡◌, refl, ap, ◌∙◌}
use mathlib.Core.List.{[], ◌∷◌}
use mathlib.Core.Logic.{◌≢◌}
use native.Mathlib.Omega.{arith}
use lib.ListN.{get_or}
use Rattle.schedule.specs.PlainSchedule.{Timing, Book, more_urgent, canonical_at, queue_of, left_in}
use Rattle.schedule.specs.Feasibility.{Fitting, NeverLate}
use Rattle.schedule.proofs.Feasible.{never_late}
use Rattle.schedule.proofs.Drain.{Quiet}
use Rattle.schedule.proofs.QueueLaws.{queue_of_cong}
use Rattle.schedule.proofs.Span.{renewed, drained, canonical_span, canonical_start}

-- three tasks: 4 ticks in every 10, 4 in every 10, 6 in every 30
abbrev pub bench : Timing
bench = record { count = 3; period = λ i. get_or (10 ∷ 10 ∷ 30 ∷ []) i 0; allotment = λ i. get_or (4 ∷ 4 ∷ 6 ∷ []) i 0 }

-- what holds of each of the three tasks
each : (P : ℕ → Type 0) → P 0 → P 1 → P 2 → (i : ℕ) → i < 3 → P i
each P a b c zero h = a
each P a b c (suc zero) h = b
each P a b c (suc (suc zero)) h = c
each P a b c (suc (suc (suc i))) h = absurd (omega arith)

-- they fill a hyperperiod of 30 ticks exactly
pub bench_fits : Fitting bench 30
bench_fits =
    record {
      positive = omega arith;
      periods = each (λ i. 0 < bench.period i) (omega arith) (omega arith) (omega arith);
      allotments = each (λ i. 0 < bench.allotment i) (omega arith) (omega arith) (omega arith);
      multiple = each (λ i. 30 % bench.period i ≡ 0) refl refl refl;
      sum = omega arith;
    }

pub bench_never_late : NeverLate bench
bench_never_late = never_late bench 30 bench_fits

-- at tick 20 the long job, with two ticks left, is ahead of the two new ones: the deadlines are equal, and it arrived first
pub bench_at_20 :
    (canonical_at bench 20).pending
    ≡ record { job = record { task = 2; arrival = 0 }; remaining = 2 }
    ∷ record { job = record { task = 0; arrival = 20 }; remaining = 4 }
    ∷ record { job = record { task = 1; arrival = 20 }; remaining = 4 }
    ∷ []
unfolding more_urgent
bench_at_20 = refl

-- between the arrivals at 0 and at 10 there are none
bench_quiet : Quiet bench 3 0 10
bench_quiet i k h = each (λ j. 0 < k → k < 10 → (0 + k) % bench.period j ≢ 0) (λ x y. omega arith) (λ x y. omega arith) (λ x y. omega arith) i h

-- so ten ticks are taken at once: the short tasks have new jobs, and the long one has had the two ticks that they left it
pub bench_span : (canonical_at bench 10).pending ≡ queue_of bench 10 (λ i. get_or (4 ∷ 4 ∷ 4 ∷ []) i 0) 3
unfolding more_urgent
bench_span =
    ap (λ (b : Book). b.pending) (canonical_span bench 30 bench_fits 0 10 bench.allotment (omega arith) bench_quiet (canonical_start bench 30 bench_fits))
    ∙ queue_of_cong bench 10 (renewed bench 10 (λ i. left_in i (drained bench 0 10 bench.allotment))) (λ i. get_or (4 ∷ 4 ∷ 4 ∷ []) i 0) 3
    (each (λ i. renewed bench 10 (λ j. left_in j (drained bench 0 10 bench.allotment)) i ≡ get_or (4 ∷ 4 ∷ 4 ∷ []) i 0) refl refl refl)
