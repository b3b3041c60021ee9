-- Whether the order that stands in a block is sound.
-- Assumes nothing.
use Rattle.std.specs.Prelude.{ℕ, Bool, List}
use Rattle.reclaiming.specs.Orders.{open_jobs}
use Rattle.reclaiming.specs.StateBlock.{decode}
use Rattle.reclaiming.specs.States.{view_of}
use Rattle.reclaiming.specs.Questions.{order_sound}
use Rattle.state.specs.Code.{timing_in}

-- whether the order that stands in a block is sound
abbrev pub order_in : List ℕ → List ℕ → ℕ → Bool
order_in speeds b highest = order_sound speeds (timing_in speeds b) highest (view_of (decode b)) (open_jobs (timing_in speeds b) (view_of (decode b)))
