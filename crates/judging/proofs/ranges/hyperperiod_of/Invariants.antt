use mathlib.Core.Path.{◌≡◌}
use lib.ListN.{length, take}
use Rattle.plan.specs.Blocks.{tasks_of}
use Rattle.judging.proofs.ranges.TaskRanges.{Spanned}
use Rattle.judging.proofs.ranges.hyperperiod_of.Given as goal

abbrev pub invariant-loop-t : goal.invariant-loop-t
invariant-loop-t l =
    (l.t-iterator.iter.rest.now ≡ take (length l.t-iterator.iter.rest.now) (tasks_of l.fn.p))
    × Spanned l.fn.p (length l.t-iterator.iter.rest.now) l.h
