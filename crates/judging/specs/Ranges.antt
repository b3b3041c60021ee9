-- The questions that are asked in one walk over the tasks of a plan.
-- Assumes nothing.
use Rattle.std.specs.Prelude.{ℕ, List, [], ◌∷◌}
use Rattle.arith.specs.Asking.{ask, first_no}
use Rattle.arith.specs.Choice.{every}
use Rattle.plan.specs.declared.Task.{Task}
use Rattle.plan.specs.Questions.{range_question, floor_loaded}

-- the number of the first no of 6 and 24, the floors being asked of so many levels
abbrev pub ranges_no : ℕ → List Task → ℕ
ranges_no levels ts = first_no (range_question ts ∷ ask 24 (every (floor_loaded levels) ts) ∷ [])
