-- 02, No. 7, "Damping for the knee itself": the valve job, and how often a run finishes one. All of it is said of the dispatcher's book.
-- Assumes nothing.
use Rattle.std.specs.Prelude.{ℕ, suc, ◌+◌, ◌-◌, ◌*◌, ◌<◌, ◌≤◌, ◌≡◌, true, List}
use Rattle.plan.specs.LevelBlocks.{speeds_in}
use Rattle.plan.specs.Blocks.{tasks_in}
use Rattle.schedule.specs.PlainSchedule.{Timing, Job}
use Rattle.schedule.specs.Feasibility.{In}
use Rattle.schedule.specs.Served.{Arrived}
use Rattle.reclaiming.specs.Allotments.{timing}
use Rattle.reclaiming.specs.Replies.{is_order}
use Rattle.reclaiming.specs.Passes.{Pass}
use Rattle.reclaiming.specs.Books.{DispatcherBook}
use Rattle.reclaiming.specs.Promises.{OpenActual}
use Rattle.reclaiming.specs.Play.{reply_from, played_actual}

-- 02, No. 7: "The crate names task 0 as the valve job"
abbrev pub valve_task : ℕ
valve_task = 0

-- the valve job that arrives at tick a
abbrev pub valve_job : ℕ → Job
valve_job a = record { task = valve_task; arrival = a }

-- a pass finishes a job that is open in the dispatcher's book before it and closed after it
pub record FinishedBetween (τ : Timing) (before after : DispatcherBook) (j : Job) : Type 0 where
  pub was_open : OpenActual τ before j
  pub is_closed : In j after.closed

-- a run: the dispatcher's book after its first n passes, accepted and refused ones
module _ (τ : Timing) (book : ℕ → DispatcherBook) where
  -- the valve's period
  abbrev pub valve_period : ℕ
  valve_period = τ.period valve_task

  -- pass n, from 0 on, finishes a job; the finish is the book's clock after it
  abbrev pub Finishes : ℕ → Job → Type 0
  Finishes n j = FinishedBetween τ (book n) (book (suc n)) j

  abbrev pub finish : ℕ → ℕ
  finish n = (book (suc n)).clock

  -- one of the first n passes finishes a job
  abbrev pub FinishedWithin : ℕ → Job → Type 0
  FinishedWithin n j = (m : ℕ) × ((m < n) × Finishes m j)

  -- 02, No. 7: "between the finishes of two consecutive valve jobs lie at most twice its period less one tick"
  abbrev pub RefreshApart : Type 0
  RefreshApart =
      (a m n : ℕ) →
      Finishes m (valve_job a) →
      Finishes n (valve_job (a + valve_period)) →
      (finish m < finish n) × (finish n ≤ finish m + (2 * valve_period - 1))

  -- 02, No. 7: "as long as passes go on being accepted past both": once the clock has come to the deadline of the second, both have
  -- finished. A valve that never finishes would meet the sentence above, and not this one.
  abbrev pub RefreshGoesOn : Type 0
  RefreshGoesOn =
      (a n : ℕ) →
      Arrived τ a (valve_job a) →
      a + 2 * valve_period ≤ (book n).clock →
      FinishedWithin n (valve_job a) × FinishedWithin n (valve_job (a + valve_period))

  -- so how old a damping can get: while the next valve job has not finished, whether it has arrived or not, the clock is at most twice the
  -- period less two ticks past the last finish
  abbrev pub RefreshAge : Type 0
  RefreshAge =
      (a m n : ℕ) →
      Finishes m (valve_job a) →
      (In (valve_job (a + valve_period)) (book n).closed → ⊥) →
      (book n).clock ≤ finish m + (2 * valve_period - 2)

-- "in a run as in demand 3": each of them, said of the number that a played run returned and of those that it left in the lent block
module _ (levels block : List ℕ) (first : ℕ) (passes : List Pass) (replies : List ℕ) where
  abbrev OfRun : (Timing → (ℕ → DispatcherBook) → Type 0) → Type 0
  OfRun Promise =
      is_order (reply_from first) ≡ true →
      Promise (timing (speeds_in levels) (tasks_in block)) (played_actual levels block first passes replies)

  abbrev pub PlayedRefreshApart : Type 0
  PlayedRefreshApart = OfRun RefreshApart

  abbrev pub PlayedRefreshGoesOn : Type 0
  PlayedRefreshGoesOn = OfRun RefreshGoesOn

  abbrev pub PlayedRefreshAge : Type 0
  PlayedRefreshAge = OfRun RefreshAge
