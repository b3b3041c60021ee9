use Rattle.judging.proofs.ranges.TaskRanges.{Ranging}
use Rattle.judging.proofs.ranges.ranges_asked.Given as goal

abbrev pub invariant-loop-t : goal.invariant-loop-t
invariant-loop-t l = Ranging l.levels l.fn.p l.loaded l.t-index
