use Prim.Native.Nat.{◌≤◌, ◌-◌}
use Rattle.levels.specs.Code.{loaded}
use Rattle.reclaiming.specs.Orders.{lowest_level}
use Rattle.orders.proofs.level_for.Given as goal

abbrev pub invariant-loop-low : goal.invariant-loop-low
invariant-loop-low l =
    (l.floor ≤ l.low)
    × (l.low ≤ lowest_level (loaded l.table.speeds l.table.levels) l.floor l.rest l.allowed)
    × (lowest_level (loaded l.table.speeds l.table.levels) l.floor l.rest l.allowed ≤ l.high)
    × (l.high ≤ l.highest)

abbrev pub decreases-loop-low : goal.decreases-loop-low
decreases-loop-low l = l.high - l.low
