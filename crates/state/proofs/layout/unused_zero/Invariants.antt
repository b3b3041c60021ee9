use Rattle.state.proofs.TailLaws.{ClearFrom}
use Rattle.state.proofs.layout.unused_zero.Given as goal

abbrev pub invariant-loop-k : goal.invariant-loop-k
invariant-loop-k l = ClearFrom l.block l.k
