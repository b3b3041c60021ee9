-- Starting at a table of speeds.
-- Assumes nothing.
use Rattle.std.specs.Prelude.{ℕ, List, [], ◌∷◌, ◌++◌}
use Rattle.arith.specs.Asking.{first_no}
use Rattle.plan.specs.Questions.{room_question}
use Rattle.plan.specs.Pairs.{paired_reading}
use Rattle.reclaiming.specs.StateBlock.{state_length}

-- the number that starting a block with its pairs at a table of speeds is answered with: reading's questions, 22, then 9
abbrev pub start_no : List ℕ → List ℕ → List ℕ → ℕ → ℕ
start_no speeds block pairs room = first_no (paired_reading speeds block pairs ++ (room_question state_length room ∷ []))
