use Rattle.levels.specs.Code.{loaded}
use Rattle.starting.proofs.image.MakingLaws.{Making}
use Rattle.starting.proofs.image.fresh.Given as goal

abbrev pub invariant-loop-i : goal.invariant-loop-i
invariant-loop-i l = Making (loaded l.speeds l.levels) l.speed l.p l.image l.total l.i
