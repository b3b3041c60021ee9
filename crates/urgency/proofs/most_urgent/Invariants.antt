use Rattle.state.specs.Code.{field_in}
use Rattle.urgency.proofs.KeySteps.{LeastKeyTo}
use Rattle.urgency.proofs.most_urgent.Given as goal

abbrev pub invariant-loop-i : goal.invariant-loop-i
invariant-loop-i l = LeastKeyTo l.keys (field_in l.block l.at l.n) l.count l.best l.i
