use mathlib.Core.Path.{ap, ◌∙◌}
use Rattle.reclaiming.specs.StateBlock.{floor_part, worst_field}
use Rattle.state.proofs.BlockLaws.{field_in_lem}
use Rattle.state.proofs.floor_at.Goals as goal

pub returns : goal.returns
returns c =
    ap floor_part (c.field_at.ensures.0 ∙ field_in_lem c.args.block.now worst_field c.args.i)
