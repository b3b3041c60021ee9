-- The calls on plans as C sees them: a plan handed over as plain numbers, an answer as one number.
-- Assumes nothing.
use Rattle.std.specs.Prelude.{ℕ, ◌+◌, ◌*◌, List, get_or}
use Rattle.arith.specs.Ranges.{list_to}
use Rattle.plan.specs.declared.Task.{Task}
use Rattle.plan.specs.declared.Plan.{Plan}
use Rattle.std.specs.declared.result.Result.TheVariants.{Ok, Err}
use Rattle.plan.specs.Answers.{Verdict}

-- task i of a list of numbers: a period, then a worst case, then fixed ticks, then a floor, for each task; past the list's end they are 0
abbrev pub task_at : List ℕ → ℕ → Task
task_at numbers i = record {
  period = get_or numbers (4 * i) 0;
  worst = get_or numbers (4 * i + 1) 0;
  fixed = get_or numbers (4 * i + 2) 0;
  floor = get_or numbers (4 * i + 3) 0;
}

abbrev pub plan_from : ℕ → List ℕ → Plan
plan_from count numbers = record { count = count; tasks = list_to 16 (task_at numbers) }

-- a refusal is its number; else the level times 256 and the hyperperiod times 65,536
abbrev pub verdict_number : Verdict → ℕ
verdict_number (Ok a) = 256 * a.nominal + 65536 * a.hyperperiod
verdict_number (Err e) = e.number
