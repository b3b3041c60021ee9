use native.Mathlib.Omega.{arith}
use Rattle.arith.proofs.ArrayLaws.{values_more}
use Rattle.plan.specs.LevelBlocks.{speed_at}
use Rattle.levels.proofs.speeds_in.Goals as goal

pub loop-i-preserved : goal.loop-i-preserved
loop-i-preserved c =
    values_more 8 0 (speed_at c.args.block.now) c.loop-i.speeds c.loop-i.i c.bits_at.result (omega arith) c.loop-i.invariant c.bits_at.ensures
