use mathlib.Core.Path.{◌≡◌}
use Rattle.arith.specs.Arrays.{padded}
use Rattle.arith.specs.Ranges.{list_to}
use Rattle.plan.specs.LevelBlocks.{speed_at}
use Rattle.levels.proofs.speeds_in.Given as goal

abbrev pub invariant-loop-i : goal.invariant-loop-i
invariant-loop-i l = l.speeds ≡ padded 8 0 (list_to l.i (speed_at l.block))
