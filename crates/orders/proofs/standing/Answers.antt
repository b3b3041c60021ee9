use Prim.Native.Nat.{ℕ}
use mathlib.Core.Path.{◌≡◌, ap, ap₂, ◌∙◌}
use mathlib.Core.List.{List}
use native.Mathlib.Omega.{arith}
use Rattle.plan.specs.declared.Rest.{Rest}
use Rattle.levels.specs.Code.{loaded}
use Rattle.reclaiming.specs.StateBlock.{rest_in, decode}
use Rattle.state.specs.Code.{entry_in}
use Rattle.state.proofs.BlockLaws.{task_byte, level_byte}
use Rattle.orders.specs.declared.Choice.{Choice}
use Rattle.orders.specs.Code.{run_of}
use Rattle.orders.proofs.OrderLaws.{Runs, standing_task, standing_level, standing_run}
use Rattle.orders.proofs.standing.Goals.{Else-task-eq255}
use Rattle.orders.proofs.standing.Goals as goal

runs : (c : Else-task-eq255) → Runs c.args.table.now.levels c.args.block.now
runs c = record { holds = c.requires.holds; runnable = c.requires.runnable; some = λ e. c.if-task-eq255.false (task_byte c.args.block.now ∙ e) }

pub rest_at-requires : goal.rest_at-requires
rest_at-requires c = (omega (arith, standing_task (runs c), task_byte c.args.block.now), (runs c).holds.size)

pub running_order-requires : goal.running_order-requires
running_order-requires c =
    let k = runs (goal.at.running_order-requires c).Else-task-eq255 in (
      omega (arith, standing_task k, task_byte c.args.block.now),
      omega (arith, standing_level k, level_byte c.args.block.now),
      omega (arith, c.rest_at.ensures.2),
      omega (arith, c.rest_at.ensures.1),
    )

pub returns : goal.returns
returns c =
    let b : List ℕ = c.args.block.now in
    let table : List ℕ = loaded c.args.table.now.speeds c.args.table.now.levels in
    let r : Rest = c.rest_at.result in
    let left : r ≡ rest_in (entry_in b (decode b).task) =
    c.rest_at.ensures.0 ∙ ap (λ (x : ℕ). rest_in (entry_in b x)) (task_byte b) in
    let run : ℕ → ℕ → Choice = λ x y. run_of table x y r in
    c.running_order.ensures ∙ ap₂ run (task_byte b) (level_byte b) ∙ standing_run (runs (goal.at.returns c).Else-task-eq255) table left
