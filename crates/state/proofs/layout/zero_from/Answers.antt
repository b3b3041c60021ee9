use Rattle.state.proofs.layout.LayoutLaws.{zero_places}
use Rattle.state.proofs.layout.zero_from.Goals as goal

pub returns : goal.returns
returns c = zero_places c.args.block.now c.args.at c.requires.0 c.loop-byte.invariant.0 c.loop-byte-test.false
