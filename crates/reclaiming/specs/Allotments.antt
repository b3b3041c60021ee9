-- 01, "Plan, levels, plain schedule": what the plain schedule sees of a plan.
-- Assumes nothing.
use Rattle.std.specs.Prelude.{ℕ, List, length, get_or}
use Rattle.plan.specs.declared.Task.{Task}
use Rattle.plan.specs.Times.{task_time}
use Rattle.plan.specs.Levels.{speed_of, nominal}
use Rattle.plan.specs.Blocks.{no_task}
use Rattle.schedule.specs.PlainSchedule.{Timing}

-- periods, and the worst cases' times at a speed as allotments
abbrev pub timing_at : ℕ → List Task → Timing
timing_at speed ts = record {
  count = length ts;
  period = λ i. (get_or ts i no_task).period;
  allotment = λ i. task_time speed (get_or ts i no_task);
}

-- 01: "A task's allotment is its worst case's time at the nominal level."
abbrev pub timing : List ℕ → List Task → Timing
timing speeds ts = timing_at (speed_of speeds (nominal speeds ts)) ts
