use native.Mathlib.Omega.{arith}
use Rattle.arith.proofs.ArrayLaws.{values_more}
use Rattle.reclaiming.specs.StateBlock.{level_places, speed_in}
use Rattle.state.proofs.tables.speeds_of.Goals as goal

pub loop-k-preserved : goal.loop-k-preserved
loop-k-preserved c =
    values_more level_places 0 (speed_in c.args.block.now) c.loop-k.speed-items c.loop-k.k _ (omega arith) c.loop-k.invariant c.speed_at.ensures.0
