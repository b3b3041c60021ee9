use Rattle.plan_calls.proofs.numbers.Filling.{Put}
use Rattle.plan_calls.proofs.numbers.plan_from.Given as goal

abbrev pub invariant-loop-i : goal.invariant-loop-i
invariant-loop-i l = Put l.numbers l.count l.p l.i
