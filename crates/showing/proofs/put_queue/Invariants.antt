use Rattle.state.proofs.BlockLaws.{remaining_in}
use Rattle.showing.proofs.ShowLaws.{ShownTo}
use Rattle.showing.proofs.put_queue.Given as goal

abbrev pub invariant-loop-k : goal.invariant-loop-k
invariant-loop-k l = ShownTo (remaining_in l.state) l.task-items l.initial.buffer l.buffer l.k
