use Rattle.ticks.proofs.draining.DrainLaws.{Draining}
use Rattle.ticks.proofs.draining.drain.Given as goal

abbrev pub invariant-loop-ticks : goal.invariant-loop-ticks
invariant-loop-ticks l = Draining l.keys l.count l.d l.initial.block l.block l.ticks

abbrev pub decreases-loop-ticks : goal.decreases-loop-ticks
decreases-loop-ticks l = l.ticks
