use Rattle.judging.proofs.admission.Admissions.{Summed}
use Rattle.judging.proofs.admission.demand.Given as goal

abbrev pub invariant-loop-i : goal.invariant-loop-i
invariant-loop-i l = Summed l.p l.jobs l.speed l.total l.i
