use Rattle.ticks.proofs.KeyRenewal.{Renewing}
use Rattle.ticks.proofs.renewed.Given as goal

abbrev pub invariant-loop-i : goal.invariant-loop-i
invariant-loop-i l = Renewing l.block l.keys l.count l.clock l.r l.i
