use Rattle.soundness.proofs.SoundLaws.{copy_more, copy_all}
use Rattle.soundness.proofs.plan_of.Goals as goal

pub loop-i-preserved : goal.loop-i-preserved
loop-i-preserved c = copy_more c.loop-i.invariant c.loop-i-test.true c.task_at.ensures.0

pub returns : goal.returns
returns c = copy_all c.loop-i.invariant c.loop-i-test.false
