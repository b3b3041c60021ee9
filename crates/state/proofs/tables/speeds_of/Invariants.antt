use mathlib.Core.Path.{◌≡◌}
use Rattle.arith.specs.Arrays.{padded}
use Rattle.arith.specs.Ranges.{list_to}
use Rattle.reclaiming.specs.StateBlock.{level_places, speed_in}
use Rattle.state.proofs.tables.speeds_of.Given as goal

abbrev pub invariant-loop-k : goal.invariant-loop-k
invariant-loop-k l = l.speed-items ≡ padded level_places 0 (list_to l.k (speed_in l.block))
