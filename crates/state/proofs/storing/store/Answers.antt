use native.Mathlib.Omega.{arith}
use lib.Seq.{length-take-le}
use Rattle.reclaiming.specs.StateBlock.{state_length}
use Rattle.state.proofs.storing.store.Goals as goal

pub copy_from_slice-requires : goal.copy_from_slice-requires
copy_from_slice-requires c = omega (arith, length-take-le state_length c.args.buffer.now c.requires.1)
