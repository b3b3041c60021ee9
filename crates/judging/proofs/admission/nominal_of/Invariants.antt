use Prim.Native.Nat.{◌≤◌}
use Rattle.plan.specs.Blocks.{tasks_of}
use Rattle.plan.specs.Levels.{nominal}
use Rattle.levels.specs.Code.{loaded}
use Rattle.judging.proofs.admission.nominal_of.Given as goal

abbrev pub invariant-loop-level : goal.invariant-loop-level
invariant-loop-level l = l.level ≤ nominal (loaded l.table.speeds l.table.levels) (tasks_of l.p)
