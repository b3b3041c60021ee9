use Rattle.state.proofs.BlockLaws.{remaining_in}
use Rattle.urgency.proofs.KeySteps.{AllowedTo}
use Rattle.urgency.proofs.allowance_of.Given as goal

abbrev pub invariant-loop-j : goal.invariant-loop-j
invariant-loop-j l = AllowedTo l.keys (remaining_in l.block) l.count l.key l.sum l.j
