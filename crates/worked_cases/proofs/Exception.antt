-- 02, No. 4: demand 3 needs its exception, and needs it with "at most". In the smallest run, after 1 tick finished and 1 unfinished, job 1 is
-- open in the dispatcher's book and closed in the plain one, and its time left is all of the ticks to the next arrival.
-- Assumes nothing.
use Prim.Native.Nat.{ℕ, ◌%◌, ◌<◌, zero-le}
use mathlib.Core.Path.{◌≡◌, refl, ap, ap₂, subst₂}
use mathlib.Core.Bool.{true, false, false≢true}
use mathlib.Core.List.{List, [], ◌∷◌}
use mathlib.Core.Logic.{◌⊎◌, ⊎_elim}
use native.Mathlib.Omega.{arith}
use borrow.Author.Tests.{eqb-true}
use lib.Dec.{eqb}
use lib.ListN.{length, take, replicate}
use Rattle.arith.specs.Choice.{every}
use Rattle.arith.specs.Need.{need}
use Rattle.arith.specs.Divisor.{gcd, lcm}
use Rattle.plan.specs.declared.Task.{Task}
use Rattle.plan.specs.Times.{time_of, worn}
use Rattle.plan.specs.LevelBlocks.{speeds_in}
use Rattle.plan.specs.Blocks.{tasks_in}
use Rattle.schedule.specs.PlainSchedule.{Timing, Job, Book, more_urgent, opened}
use Rattle.schedule.specs.Feasibility.{In}
use Rattle.schedule.specs.Served.{OpenPlain}
use Rattle.schedule.proofs.Members.{every_in}
use Rattle.reclaiming.specs.Replies.{Reply, run_task}
use Rattle.reclaiming.specs.Allotments.{timing}
use Rattle.reclaiming.specs.Orders.{next_arrival}
use Rattle.reclaiming.specs.Passes.{Pass}
use Rattle.reclaiming.specs.Books.{Answered, DispatcherBook, opened_book, booked_all, ran_all}
use Rattle.reclaiming.specs.StateBlock.{state_length}
use Rattle.reclaiming.specs.Calls.{start_reply}
use Rattle.reclaiming.specs.Promises.{OpenActual, Started, time_left, replies, actual_book, plain_book}
use Rattle.worked_cases.specs.Cases.{pass}
use Rattle.worked_cases.specs.LoneCases.{two_levels, lone_plan, lone_passes, NeverBehind, BelowTheGap}

abbrev buffer : List ℕ
buffer = replicate state_length 0

abbrev passes : List Pass
passes = take 2 lone_passes

abbrev τ : Timing
τ = timing (speeds_in two_levels) (tasks_in lone_plan)

abbrev speeds : List ℕ
speeds = speeds_in two_levels

abbrev ts : List Task
ts = tasks_in lone_plan

abbrev second : Job
second = record { task = 1; arrival = 0 }

started : Started two_levels lone_plan [] buffer
unfolding need time_of worn lcm gcd more_urgent
started = refl

-- the run's replies, computed first: the books are read off them
abbrev first : Reply
first = run_task 0 1 1

abbrev answered : List Answered
answered =
    record { pass = pass true 1; reply = run_task 1 0 2 }
    ∷ record { pass = pass false 1; reply = run_task 1 0 1 }
    ∷ []

first_is : start_reply two_levels lone_plan [] (length buffer) ≡ first
unfolding need time_of worn lcm gcd more_urgent
first_is = refl

answered_is : replies two_levels lone_plan [] buffer passes ≡ answered
unfolding need time_of worn lcm gcd more_urgent
answered_is = refl

abbrev actual : DispatcherBook
actual = booked_all speeds ts (opened_book ts first) answered

abbrev plain : Book
plain = ran_all τ (opened τ) answered

actual_is : actual_book two_levels lone_plan [] buffer passes ≡ actual
actual_is = ap₂ (λ (r : Reply) (l : List Answered). booked_all speeds ts (opened_book ts r) l) first_is answered_is

plain_is : plain_book two_levels lone_plan [] buffer passes ≡ plain
plain_is = ap (ran_all τ (opened τ)) answered_is

-- what the two books have, each as a test that is computed
two_tasks : eqb τ.count 2 ≡ true
unfolding need time_of worn lcm gcd more_urgent
two_tasks = refl

at_tick_0 : eqb (0 % τ.period 1) 0 ≡ true
unfolding need time_of worn lcm gcd more_urgent
at_tick_0 = refl

first_closed : every (λ (j : Job). eqb j.task 0) actual.closed ≡ true
unfolding need time_of worn lcm gcd more_urgent
first_closed = refl

none_pending : eqb (length plain.pending) 0 ≡ true
unfolding need time_of worn lcm gcd more_urgent
none_pending = refl

time_is : eqb (time_left speeds actual) 1 ≡ true
unfolding need time_of worn lcm gcd more_urgent
time_is = refl

gap_is : eqb (next_arrival τ actual.clock) 1 ≡ true
unfolding need time_of worn lcm gcd more_urgent
gap_is = refl

-- so job 1 is open in the one
below : (n : ℕ) → eqb n 2 ≡ true → 1 < n
below n e = omega (arith, eqb-true n 2 e)

still_open : OpenActual τ actual second
still_open = record {
  arrived = record { task = below τ.count two_tasks; arrival = zero-le; multiple = eqb-true (0 % τ.period 1) 0 at_tick_0 };
  unclosed = λ m. false≢true (every_in (λ (j : Job). eqb j.task 0) actual.closed first_closed second m);
}

-- and closed in the other
none_in : {A : Type 0} (q : List A) → length q ≡ 0 → (x : A) → In x q → ⊥
none_in [] e x m = m
none_in (y ∷ q) e x m = omega (arith, e)

plain_closed : OpenPlain plain second → ⊥
plain_closed o = none_in plain.pending (eqb-true (length plain.pending) 0 none_pending) (record { job = second; remaining = o.0 }) o.1

pub exception_needed : NeverBehind → ⊥
exception_needed claim =
    plain_closed
    (subst₂ (λ (a : DispatcherBook) (b : Book). OpenActual τ a second → OpenPlain b second) actual_is plain_is
    (claim two_levels lone_plan [] buffer passes started second) still_open)

-- its time left is no less than the gap
not_less : (t n : ℕ) → eqb t 1 ≡ true → eqb n 1 ≡ true → t < n → ⊥
not_less t n e f h = omega (arith, eqb-true t 1 e, eqb-true n 1 f)

pub at_most_needed : BelowTheGap → ⊥
at_most_needed claim =
    ⊎_elim plain_closed (not_less (time_left speeds actual) (next_arrival τ actual.clock) time_is gap_is)
    (subst₂ (λ (a : DispatcherBook) (b : Book). OpenActual τ a second → OpenPlain b second ⊎ (time_left speeds a < next_arrival τ a.clock)) actual_is plain_is
    (claim two_levels lone_plan [] buffer passes started second) still_open)
