use Prim.Native.Nat.{◌≤◌}
use Rattle.arith.specs.Choice.{first}
use Rattle.levels.specs.Code.{loaded}
use Rattle.judging.proofs.admission.Admissions.{does}
use Rattle.judging.proofs.admission.slowest_for.Given as goal

abbrev pub invariant-loop-level : goal.invariant-loop-level
invariant-loop-level l = l.level ≤ first (does l.work l.span) (loaded l.table.speeds l.table.levels)
