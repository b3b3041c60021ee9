use Rattle.pairs.proofs.PairSteps.{Looked}
use Rattle.pairs.proofs.each_good.Given as goal

abbrev pub invariant-loop-pair : goal.invariant-loop-pair
invariant-loop-pair l = Looked l.p l.whole l.pairs l.pair-index
