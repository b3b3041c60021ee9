use Rattle.urgency.proofs.KeySteps.{Earliest}
use Rattle.urgency.proofs.next_arrival.Given as goal

abbrev pub invariant-loop-i : goal.invariant-loop-i
invariant-loop-i l = Earliest l.keys l.count l.clock l.first l.i
