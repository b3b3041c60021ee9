use mathlib.Core.Path.{◌≡◌}
use Rattle.arith.specs.Arrays.{padded}
use Rattle.arith.specs.Ranges.{list_to}
use Rattle.judging.proofs.admission.Admissions.{jobs_in}
use Rattle.judging.proofs.admission.jobs_within.Given as goal

abbrev pub invariant-loop-i : goal.invariant-loop-i
invariant-loop-i l = l.jobs ≡ padded 16 0 (list_to l.i (jobs_in l.span l.p))
