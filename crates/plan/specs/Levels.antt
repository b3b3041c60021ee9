-- 01, "Plan, levels, plain schedule": levels, the hyperperiod, admission, the nominal level and allotments. A table of speeds is a
-- parameter of everything here; 01's eight are one value of it.
-- Assumes nothing.
use Rattle.std.specs.Prelude.{ℕ, ◌*◌, ◌/◌, ◌<◌, Bool, List, [], ◌∷◌, leb, length, get_or}
use Rattle.arith.specs.Choice.{first}
use Rattle.arith.specs.Sum.{sum_of}
use Rattle.arith.specs.Divisor.{lcm}
use Rattle.plan.specs.declared.Task.{Task}
use Rattle.plan.specs.Times.{task_time}

-- 01: "Levels 0 to 7 are 10, 20, 30, 40, 50, 60, 80, 100."
abbrev pub base_speeds : List ℕ
base_speeds = 10 ∷ 20 ∷ 30 ∷ 40 ∷ 50 ∷ 60 ∷ 80 ∷ 100 ∷ []

-- all that the laws use of a table: its speeds are above 0, and a higher level is faster
pub record Rising (speeds : List ℕ) : Type 0 where
  pub positive : (level : ℕ) → level < length speeds → 0 < get_or speeds level 0
  pub faster : (low high : ℕ) → low < high → high < length speeds → get_or speeds low 0 < get_or speeds high 0

-- 01: "A level is a speed in units per tick."
abbrev pub speed_of : List ℕ → ℕ → ℕ
speed_of speeds level = get_or speeds level 0

-- 01: "The hyperperiod is the least common multiple of all periods."
abbrev pub hyperperiod : List Task → ℕ
hyperperiod [] = 1
hyperperiod (t ∷ ts) = lcm t.period (hyperperiod ts)

-- over the tasks, the sum of (time needed for the worst case at a speed, times a span divided by the period)
abbrev pub demand_within : ℕ → ℕ → List Task → ℕ
demand_within span speed ts = sum_of (λ (t : Task). task_time speed t * (span / t.period)) ts

-- 01: "A level admits the plan if, over the tasks, the sum of (..) is at most the hyperperiod."
abbrev pub admits : List Task → ℕ → Bool
admits ts speed = leb (demand_within (hyperperiod ts) speed ts) (hyperperiod ts)

-- 01: "The nominal level is the lowest that admits it." Where none does, it is the count of the levels.
abbrev pub nominal : List ℕ → List Task → ℕ
nominal speeds ts = first (admits ts) speeds
