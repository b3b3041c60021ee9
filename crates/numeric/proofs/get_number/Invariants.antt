use Rattle.arith.proofs.DigitLaws.{ReadTo}
use Rattle.numeric.proofs.get_number.Given as goal

abbrev pub invariant-loop-byte : goal.invariant-loop-byte
invariant-loop-byte l = ReadTo 256 l.s l.at l.acc l.byte-index
