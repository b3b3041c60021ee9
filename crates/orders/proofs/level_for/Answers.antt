use Prim.Native.Nat.{ℕ, ◌+◌, ◌/◌}
use native.Mathlib.Omega.{arith}
use Rattle.levels.specs.Code.{loaded}
use Rattle.levels.proofs.Tables.{levels_are, speed_positive, speed_most}
use Rattle.reclaiming.proofs.Lowest.{lowest_le}
use Rattle.orders.proofs.OrderLaws.{Tried, level_high, level_low}
use Rattle.orders.proofs.level_for.Goals.{After-is_enough, In-loop-low}
use Rattle.orders.proofs.level_for.Goals as goal

-- the level that a turn tries
abbrev middle : In-loop-low → ℕ
middle c = (c.loop-low.low + c.loop-low.high) / 2

tried : (c : After-is_enough) →
    Tried c.args.table.now.speeds c.args.table.now.levels c.args.rest c.args.allowed c.args.floor ((c.loop-low.low + c.loop-low.high) / 2) c.is_enough.result
tried c = record { table = c.args.table.now.known; above = omega arith; low = omega arith; found_is = c.is_enough.ensures }

pub loop-low-init : goal.loop-low-init
loop-low-init c = (
  omega arith,
  omega arith,
  lowest_le (loaded c.args.table.now.speeds c.args.table.now.levels) c.args.floor c.args.rest c.args.allowed c.args.highest c.requires.bounds.1
      (omega (arith, c.requires.bounds.2, levels_are c.args.table.now.known)) c.requires.rest_bound,
  omega arith,
)

pub is_enough-requires : goal.is_enough-requires
is_enough-requires c =
    let m = middle (goal.at.is_enough-requires c).In-loop-low in
    (speed_positive c.args.table.now.known m (omega arith), speed_most c.args.table.now.known m (omega arith), c.requires.bounds.0)

pub loop-low-preserved-then-is_enough : goal.loop-low-preserved-then-is_enough
loop-low-preserved-then-is_enough c =
    let now = c.loop-low.invariant in
    (now.0, now.1, level_high (tried (goal.at.loop-low-preserved-then-is_enough c).After-is_enough) c.if-is_enough.true, omega arith)

pub loop-low-preserved : goal.loop-low-preserved
loop-low-preserved c =
    let now = c.loop-low.invariant in
    (omega arith, level_low (tried (goal.at.loop-low-preserved c).After-is_enough) c.if-is_enough.false, now.2, now.3)
