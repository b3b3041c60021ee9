use Prim.Native.Nat.{◌≤◌, ◌-◌}
use mathlib.Core.Path.{◌≡◌}
use lib.ListN.{drop}
use Rattle.plan.specs.LevelBlocks.{rises_from}
use Rattle.levels.specs.Code.{loaded}
use Rattle.levels.proofs.LevelLaws.{climbs_from}
use Rattle.levels.proofs.rises.Given as goal

abbrev pub invariant-loop-i : goal.invariant-loop-i
invariant-loop-i l = (l.i ≤ l.levels) × (climbs_from l.last (drop l.i (loaded l.speeds l.levels)) ≡ rises_from 0 (loaded l.speeds l.levels))

abbrev pub decreases-loop-i : goal.decreases-loop-i
decreases-loop-i l = l.levels - l.i
