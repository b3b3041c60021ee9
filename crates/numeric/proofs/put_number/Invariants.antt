use mathlib.Core.Path.{◌≡◌}
use lib.Seq.{sets}
use Rattle.arith.specs.Digits.{digits}
use Rattle.numeric.proofs.put_number.Given as goal

abbrev pub invariant-loop-i : goal.invariant-loop-i
invariant-loop-i l = sets l.s l.at (digits 256 l.i l.rest) ≡ sets l.initial.s l.at (digits 256 l.n l.x)
