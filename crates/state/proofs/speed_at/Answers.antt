use native.Mathlib.Omega.{arith}
use Rattle.state.proofs.TailLaws.{speed_read}
use Rattle.state.proofs.speed_at.Goals as goal

pub returns : goal.returns
returns c =
    speed_read c.args.block.now c.args.k c.requires.0 (λ j. omega (arith, c.shared_slice_known-1.given j)) c.get_number.ensures
