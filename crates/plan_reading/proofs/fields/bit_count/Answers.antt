use Prim.Native.Nat.{ℕ, ◌+◌, ◌*◌, ◌≤◌}
use mathlib.Core.Path.{ap}
use native.Mathlib.Omega.{arith}
use Rattle.plan.proofs.BlockBits.{width_times}
use Rattle.plan_reading.proofs.fields.bit_count.Goals.{After-task_width}
use Rattle.plan_reading.proofs.fields.bit_count.Goals as goal

small : (c : After-task_width) → c.task_width.result * c.args.count ≤ 752
small c = width_times c.args.edition c.args.count c.task_width.ensures c.requires

pub overflow_mul-result : goal.overflow_mul-result
overflow_mul-result c = omega (arith, small c)

pub overflow_add-result : goal.overflow_add-result
overflow_add-result c = omega (arith, small c)

pub returns : goal.returns
returns c = ap (λ (w : ℕ). 9 + w * c.args.count) c.task_width.ensures
