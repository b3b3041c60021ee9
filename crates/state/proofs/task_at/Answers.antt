use mathlib.Core.Path.{◌∙◌}
use native.Mathlib.Omega.{arith}
use Rattle.reclaiming.specs.StateBlock.{floor_part, worst_part, worst_field, fixed_field}
use Rattle.state.proofs.BlockLaws.{field_in_lem}
use Rattle.state.proofs.task_at.Goals as goal

pub returns : goal.returns
returns c =
    let shared = c.field_at-shared.ensures.0 ∙ field_in_lem c.args.block.now worst_field c.args.i in
    let period = c.period_at.ensures.0 in
    let fixed = c.field_at.ensures.0 ∙ field_in_lem c.args.block.now fixed_field c.args.i in (
      (λ i. record { period = period i; worst = worst_part (shared i); fixed = fixed i; floor = floor_part (shared i) }),
      omega arith,
      c.field_at.ensures.1,
    )
