use native.Mathlib.Omega.{arith}
use Rattle.reclaiming.specs.StateBlock.{remaining_field}
use Rattle.state.proofs.BlockLaws.{field_read}
use Rattle.state.proofs.remaining_at.Goals as goal

pub returns : goal.returns
returns c =
    field_read c.args.block.now c.args.i remaining_field (λ j. omega (arith, c.shared_slice_known-1.given j)) c.get_number.ensures
