-- 01, "Orders and passes" and "Questions put to every call": a pass, what it asks of a moment and what it makes of the jobs. No byte is read
-- here.
-- Assumes nothing.
use Rattle.std.specs.Prelude.{ℕ, ◌+◌, ◌%◌, Bool, true, List, [], ◌∷◌, ◌++◌, leb, ltb, eqb}
use Rattle.arith.specs.Choice.{pick}
use Rattle.arith.specs.Ranges.{some_to}
use Rattle.arith.specs.Asking.{Question, ask}
use Rattle.plan.specs.declared.Rest.{Rest}
use Rattle.plan.specs.Times.{no_rest, worn}
use Rattle.schedule.specs.PlainSchedule.{Timing}
use Rattle.reclaiming.specs.Orders.{View, next_arrival, running, running_time}

-- 01: "A pass says that d ticks went by (32 bits) and whether the running job finished at their end."
pub record Pass : Type 0 where
  pub d : ℕ
  pub finished : Bool

-- "the running job closes, or its work left falls by d times the level's speed": what is left of each task's job, where one ran at a speed
abbrev pub worked_by : ℕ → ℕ → ℕ → Bool → (ℕ → Rest) → ℕ → Rest
worked_by task speed d finished left i = pick (eqb i task) (pick finished no_rest (worn speed d (left i))) (left i)

-- "tasks whose period divides the clock get a new job"
abbrev pub arrives_at : Timing → ℕ → ℕ → Bool
arrives_at τ clock i = eqb (clock % τ.period i) 0

-- 01: "If a job finished or one arrived, a new order is chosen; otherwise task and level stay and the hold falls by d."
abbrev pub chooses_anew : Timing → View → ℕ → Bool → Bool
chooses_anew τ v d finished = pick finished true (some_to τ.count (arrives_at τ (v.clock + d)))

-- 01: "Passing goes on": 11 to 14, which ask nothing of the clock
abbrev pub step_questions : List ℕ → Timing → View → ℕ → Bool → List Question
step_questions speeds τ v d finished =
    ask 11 (leb 1 d)
    ∷ ask 12 (leb d (next_arrival τ v.clock))
    ∷ ask 13 (pick finished (running v) true)
    ∷ ask 14 (pick (running v) (pick finished (leb d (running_time speeds v)) (ltb d (running_time speeds v))) true)
    ∷ []

-- 01: "The largest clock is 4,000,000,000 ticks."
abbrev pub largest_clock : ℕ
largest_clock = 4000000000

-- a clock is "in range"
abbrev pub in_time : ℕ → Bool
in_time clock = leb clock largest_clock

-- "Is clock plus d within the largest clock? 15"
abbrev pub pass_questions : List ℕ → Timing → View → ℕ → Bool → List Question
pass_questions speeds τ v d finished = step_questions speeds τ v d finished ++ (ask 15 (in_time (v.clock + d)) ∷ [])
