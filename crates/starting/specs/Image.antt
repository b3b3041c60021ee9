-- A fresh state, before its order is chosen.
-- Assumes nothing.
use Rattle.std.specs.Prelude.{ℕ, List, length}
use Rattle.arith.specs.Ranges.{list_to}
use Rattle.plan.specs.declared.Task.{Task}
use Rattle.reclaiming.specs.Allotments.{timing_at}
use Rattle.reclaiming.specs.StateBlock.{State}
use Rattle.reclaiming.specs.States.{new_entry, state_with}

-- the state in which every task of a plan has a new job at a speed, with a table of speeds, before an order is chosen
abbrev pub new_state : List ℕ → ℕ → List Task → State
new_state speeds speed ts = state_with 0 255 0 (list_to (length ts) (new_entry (timing_at speed ts) ts)) speeds
