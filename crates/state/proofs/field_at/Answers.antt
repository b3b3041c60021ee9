use native.Mathlib.Omega.{arith}
use Rattle.state.proofs.BlockLaws.{field_small}
use Rattle.state.proofs.field_at.Goals as goal

pub returns : goal.returns
returns c =
    let small = field_small c.args.block.now c.args.at c.args.n c.args.i in
    (c.get_number.ensures, small (λ j. omega (arith, c.shared_slice_known-1.given j)) c.get_number.ensures)
