use Rattle.urgency.proofs.KeySteps.{KeysTo}
use Rattle.urgency.proofs.keys_of.Given as goal

abbrev pub invariant-loop-i : goal.invariant-loop-i
invariant-loop-i l = KeysTo l.block l.count l.clock l.keys l.i
