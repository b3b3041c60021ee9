use native.Mathlib.Omega.{arith}
use Rattle.state.proofs.TailLaws.{clear_not, clear_more}
use Rattle.state.proofs.layout.unused_zero.Goals as goal

pub returns-then-speed_at-ne0 : goal.returns-then-speed_at-ne0
returns-then-speed_at-ne0 c =
    clear_not c.loop-k.invariant c.loop-k-test.true c.speed_at.ensures.0 (omega arith)

pub loop-k-preserved : goal.loop-k-preserved
loop-k-preserved c =
    clear_more c.loop-k.invariant c.loop-k-test.true c.speed_at.ensures.0 (omega arith)
