use Rattle.urgency.proofs.KeySteps.{keys_more}
use Rattle.urgency.proofs.keys_of.Goals as goal

pub loop-i-preserved : goal.loop-i-preserved
loop-i-preserved c =
    keys_more c.loop-i.invariant c.loop-i-test.true c.period_at-period.ensures.0 c.key_of.ensures
