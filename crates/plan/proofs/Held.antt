-- A plan as the code holds it, in sixteen places of which the first so many are its tasks; and one whose tasks are in range.
-- Assumes nothing.
use Prim.Native.Nat.{ℕ, suc, ◌<◌, ◌≤◌}
use mathlib.Core.Path.{◌≡◌}
use mathlib.Core.Bool.{true}
use native.Mathlib.Omega.{arith}
use borrow.Author.Tests.{leb-true}
use lib.ListN.{length, get_or}
use Rattle.arith.specs.Choice.{every}
use Rattle.arith.proofs.Loops.{every_taken}
use Rattle.plan.specs.declared.Plan.{Plan}
use Rattle.plan.specs.Blocks.{no_task, tasks_of}
use Rattle.plan.specs.Questions.{in_range, floor_loaded}
use Rattle.plan.proofs.Facts.{InRange, in_range_lem, length-tasks_of}

pub record Held (p : Plan) : Type 0 where
  pub places : length p.tasks ≡ 16
  pub most : p.count ≤ 16

pub listed : {p : Plan} → Held p → p.count ≤ length p.tasks
listed h = omega arith

pub count_is : {p : Plan} → Held p → length (tasks_of p) ≡ p.count
count_is {p} h = length-tasks_of p h.places h.most

-- a task's floor is one of so many levels
pub floor_below :
    {p : Plan} → Held p → (levels : ℕ) → every (floor_loaded levels) (tasks_of p) ≡ true → (i : ℕ) → i < p.count → (get_or p.tasks i no_task).floor < levels
floor_below {p} h levels e i l =
    leb-true (suc (get_or p.tasks i no_task).floor) levels (every_taken (floor_loaded levels) p.tasks p.count no_task (listed h) e i l)

-- a plan whose tasks are in range
pub record Ranged (p : Plan) : Type 0 where
  pub held : Held p
  pub ranges : every in_range (tasks_of p) ≡ true

pub task_at_lem : {p : Plan} → Ranged p → (i : ℕ) → i < p.count → InRange (get_or p.tasks i no_task)
task_at_lem {p} plan i h =
    in_range_lem (get_or p.tasks i no_task)
    (every_taken in_range p.tasks p.count no_task (listed plan.held) plan.ranges i h)
