use Rattle.orders.proofs.lone.LoneLaws.{NoneTo}
use Rattle.orders.proofs.lone.is_lone.Given as goal

abbrev pub invariant-loop-j : goal.invariant-loop-j
invariant-loop-j l = NoneTo l.block l.count l.i l.j
