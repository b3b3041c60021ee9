-- 01, "The run in demand 3": the jobs of the plain schedule's book, and the ticks that the plain schedule has given each.
-- Assumes nothing.
use Rattle.std.specs.Prelude.{ℕ, zero, suc, ◌+◌, ◌%◌, ◌≤◌, ◌<◌, ◌≡◌, Bool, List, [], ◌∷◌, ◌⊎◌, eqb}
use Rattle.arith.specs.Choice.{pick, both}
use Rattle.schedule.specs.PlainSchedule.{Timing, Job, Pending, Book, deadline, canonical_at}
use Rattle.schedule.specs.Feasibility.{In}

-- 01: "one job for each arrival of each task up to that clock"
pub record Arrived (τ : Timing) (clock : ℕ) (j : Job) : Type 0 where
  pub task : j.task < τ.count
  pub arrival : j.arrival ≤ clock
  pub multiple : j.arrival % τ.period j.task ≡ 0

-- 01: a job's deadline "is its next arrival": its task has one there, after the job's own, and none between
pub record NextArrivalAt (τ : Timing) (j : Job) (t : ℕ) : Type 0 where
  pub later : j.arrival < t
  pub due : t % τ.period j.task ≡ 0
  pub next : (u : ℕ) → j.arrival < u → u % τ.period j.task ≡ 0 → t ≤ u

abbrev pub DeadlineIsNext : Type 0
DeadlineIsNext =
    (τ : Timing) (clock : ℕ) (j : Job) → 0 < τ.period j.task → Arrived τ clock j → NextArrivalAt τ j (deadline τ j)

-- a job is open in the plain schedule's book, with its plain ticks left
abbrev pub OpenPlain : Book → Job → Type 0
OpenPlain b j = (left : ℕ) × In (record { job = j; remaining = left }) b.pending

abbrev pub same_job : Job → Job → Bool
same_job a b = both (eqb a.task b.task) (eqb a.arrival b.arrival)

-- 01: "Each tick goes to the most urgent open job", the first of the ready queue; "with none open the tick is lost"
abbrev pub tick_for : Job → List Pending → ℕ
tick_for j [] = 0
tick_for j (e ∷ q) = pick (same_job e.job j) 1 0

-- the ticks that the plain schedule has given a job by tick t
abbrev pub served : Timing → Job → ℕ → ℕ
served τ j zero = 0
served τ j (suc t) = served τ j t + tick_for j (canonical_at τ t).pending

-- 01: a job "closes with the last tick of its allotment": an open one lacks its plain ticks left of it, and each that has arrived is open or
-- was given all of it
pub record AllotmentsGiven (τ : Timing) (b : Book) : Type 0 where
  pub pending : (j : Job) (o : OpenPlain b j) → served τ j b.clock + o.0 ≡ τ.allotment j.task
  pub either : (j : Job) → Arrived τ b.clock j → OpenPlain b j ⊎ (served τ j b.clock ≡ τ.allotment j.task)
