-- 01, "Plan, levels, plain schedule": what is left of a job, and the time that it needs at a speed. All else goes through the laws of
-- `time_of` and `worn` (proofs/TimeLaws): nothing beside them knows that a time is a quotient.
-- Assumes nothing.
use Rattle.std.specs.Prelude.{ℕ, ◌+◌, ◌-◌, ◌*◌, ◌≤◌}
use Rattle.arith.specs.Need.{need}
use Rattle.plan.specs.declared.Task.{Task}
use Rattle.plan.specs.declared.Rest.{Rest}

-- a whole job of a task: "full worst case", and all of its fixed ticks
abbrev pub whole : Task → Rest
whole t = record { fixed = t.fixed; work = t.worst }

-- a job that has closed: "0 once finished"
abbrev pub no_rest : Rest
no_rest = record { fixed = 0; work = 0 }

-- one job has no more left than another
pub record Within (a b : Rest) : Type 0 where
  pub fixed : a.fixed ≤ b.fixed
  pub work : a.work ≤ b.work

-- 02, No. 2: "Time needed becomes fixed ticks left plus work left divided by speed, rounded up"
unfoldable pub time_of : ℕ → Rest → ℕ
time_of speed r = r.fixed + need speed r.work

-- 02: "a job uses its fixed ticks first"; in the ticks past them, 01: "its work left falls by d times the level's speed": what d ticks at a
-- speed leave
unfoldable pub worn : ℕ → ℕ → Rest → Rest
worn speed d r = record { fixed = r.fixed - d; work = r.work - (d - r.fixed) * speed }

-- the time of a task's worst case at a speed
abbrev pub task_time : ℕ → Task → ℕ
task_time speed t = time_of speed (whole t)
