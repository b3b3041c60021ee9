use Rattle.plan.specs.Questions.{in_range}
use Rattle.judging.proofs.ranges.TaskRanges.{Scanned}
use Rattle.judging.proofs.ranges.in_range.Given as goal

abbrev pub invariant-loop-t : goal.invariant-loop-t
invariant-loop-t l = Scanned in_range l.fn.p l.t-index
