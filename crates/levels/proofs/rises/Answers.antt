use Prim.Native.Nat.{◌≤◌}
use native.Mathlib.Omega.{arith}
use lib.ListN.{length}
use Rattle.levels.specs.Code.{loaded}
use Rattle.levels.proofs.LevelLaws.{climbs_is, rises_not, rises_more, rises_end}
use Rattle.levels.proofs.rises.Goals.{Start}
use Rattle.levels.proofs.rises.Goals as goal

-- the array has a place for each level
places : (c : Start) → c.args.levels ≤ length c.args.speeds.now
places c = omega (arith, c.requires.0, c.requires.1)

pub loop-i-init : goal.loop-i-init
loop-i-init c = (omega arith, climbs_is 0 (loaded c.args.speeds.now c.args.levels) (omega arith))

pub returns-then-s-last : goal.returns-then-s-last
returns-then-s-last c =
    rises_not c.args.speeds.now c.args.levels (places (goal.at.returns-then-s-last c).Start) c.loop-i.last c.loop-i.i c.loop-i-test.true c.loop-i.invariant.1 (omega arith)

pub loop-i-preserved : goal.loop-i-preserved
loop-i-preserved c = (
  omega arith,
  rises_more c.args.speeds.now c.args.levels (places (goal.at.loop-i-preserved c).Start) c.loop-i.last c.loop-i.i c.loop-i-test.true c.loop-i.invariant.1 c.if-s-last.false,
)

pub returns : goal.returns
returns c =
    rises_end c.args.speeds.now c.args.levels (places (goal.at.returns c).Start) c.loop-i.last c.loop-i.i (omega arith) c.loop-i.invariant.1
