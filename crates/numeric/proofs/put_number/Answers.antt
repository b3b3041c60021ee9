use mathlib.Core.Path.{sym, ◌∙◌}
use native.Mathlib.Omega.{arith}
use Rattle.arith.proofs.Stores.{digits_stored}
use Rattle.numeric.proofs.put_number.Goals as goal

pub loop-i-preserved : goal.loop-i-preserved
loop-i-preserved c = sym (digits_stored 256 c.loop-i.i c.args.at c.loop-i.rest c.loop-i.s (omega arith)) ∙ c.loop-i.invariant
