-- What is known where ticks pass, and the keys after them.
-- Assumes nothing.
use Rattle.std.specs.Prelude.{ℕ, ◌+◌, ◌≤◌, List, get_or}
use Rattle.arith.specs.Choice.{pick}
use Rattle.arith.specs.Ranges.{list_to}
use Rattle.arith.specs.Arrays.{padded}
use Rattle.reclaiming.specs.Orders.{next_arrival}
use Rattle.reclaiming.specs.Passes.{largest_clock}
use Rattle.reclaiming.specs.StateBlock.{decode, places}
use Rattle.state.specs.Code.{entry_in, timing_in}
use Rattle.urgency.specs.Code.{key_of, due_at}
use Rattle.soundness.specs.Code.{Good}

-- d ticks that may pass from a sound block with its keys: some, at most up to the next arrival, and within the largest clock
pub record Stepping (speeds bytes keys : List ℕ) (highest d : ℕ) : Type 0 where
  pub good : Good speeds bytes keys highest
  pub some : 1 ≤ d
  pub within : d ≤ next_arrival (timing_in speeds bytes) (decode bytes).clock
  pub clock : (decode bytes).clock + d ≤ largest_clock

-- the keys of the first so many tasks at a clock, where each task whose deadline is there has a new job; zeros past them
abbrev pub renewed_keys : List ℕ → List ℕ → ℕ → ℕ → List ℕ
renewed_keys bytes keys count clock =
    padded places 0
    (list_to count
    (λ i. pick (due_at keys clock i) (key_of (clock + (entry_in bytes i).period) (entry_in bytes i).period i) (get_or keys i 0)))
