-- What is read stands at the front of the room, and there is ever less room behind it.
use Rattle.std.proofs.Common.{length, ◌-◌, ◌≤◌}
use Rattle.bench.proofs.read_full.Given as goal

abbrev pub invariant-loop-done : goal.invariant-loop-done
invariant-loop-done g l = l.done ≤ length l.room

abbrev pub decreases-loop-done : goal.decreases-loop-done
decreases-loop-done g l = length l.initial.room - l.done
