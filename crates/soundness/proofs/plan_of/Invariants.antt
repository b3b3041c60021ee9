use Rattle.soundness.proofs.SoundLaws.{Copying}
use Rattle.soundness.proofs.plan_of.Given as goal

abbrev pub invariant-loop-i : goal.invariant-loop-i
invariant-loop-i l = Copying l.block l.count l.p l.i
