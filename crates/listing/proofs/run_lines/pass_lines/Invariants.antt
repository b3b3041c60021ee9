use Rattle.listing.proofs.run_lines.Going.{Going}
use Rattle.listing.proofs.run_lines.pass_lines.Given as goal

abbrev pub invariant-loop-first : goal.invariant-loop-first
invariant-loop-first l = Going l.passes l.initial.state l.initial.out l.from l.state l.out l.at l.clock l.first-index
