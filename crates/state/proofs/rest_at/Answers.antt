use mathlib.Core.Path.{◌∙◌}
use Rattle.reclaiming.specs.StateBlock.{work_field, unspent_field}
use Rattle.state.proofs.BlockLaws.{field_in_lem}
use Rattle.state.proofs.rest_at.Goals as goal

pub returns : goal.returns
returns c =
    let fixed = c.field_at.ensures.0 ∙ field_in_lem c.args.block.now unspent_field c.args.i in
    let work = c.field_at-2.ensures.0 ∙ field_in_lem c.args.block.now work_field c.args.i in
    ((λ i. record { fixed = fixed i; work = work i }), c.field_at-2.ensures.1, c.field_at.ensures.1)
