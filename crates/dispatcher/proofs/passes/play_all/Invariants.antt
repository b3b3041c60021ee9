use Rattle.dispatcher.proofs.passes.PlaySteps.{PlayedTo}
use Rattle.dispatcher.proofs.passes.play_all.Given as goal

abbrev pub invariant-loop-i : goal.invariant-loop-i
invariant-loop-i l = PlayedTo l.initial.state l.passes l.initial.replies l.state l.replies l.i
