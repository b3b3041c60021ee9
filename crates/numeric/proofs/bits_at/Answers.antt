use native.Mathlib.Omega.{arith}
use Rattle.arith.proofs.BitLaws.{bits_read}
use lib.Pow.{pow_pos, pow_mono}
use Rattle.numeric.proofs.bits_at.Goals as goal

pub nonzero_rem-result : goal.nonzero_rem-result
nonzero_rem-result c =
    omega (arith, pow_pos c.args.n, pow_mono {i = c.args.n} {j = 20} c.requires.0)

pub returns : goal.returns
returns c =
    bits_read c.args.s.now (λ k l. omega (arith, c.shared_slice_known-1.given k)) c.args.at c.args.n
    c.get_number-number.result c.requires.0 c.requires.2 c.get_number-number.ensures
