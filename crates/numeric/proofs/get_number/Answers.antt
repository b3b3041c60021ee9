use native.Mathlib.Omega.{arith}
use Rattle.std.proofs.lemmas.Grind.{common_steps}
use Rattle.arith.proofs.DigitLaws.{read_more}
use Rattle.numeric.proofs.get_number.Goals as goal

pub loop-byte-preserved : goal.loop-byte-preserved
loop-byte-preserved c = read_more c.loop-byte.invariant (grind (arith, common_steps)) (grind (arith, common_steps))
