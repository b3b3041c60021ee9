-- A plan filled from numbers, as far as the loop has come.
-- Assumes nothing.
use Prim.Native.Nat.{ℕ, ◌+◌, ◌<◌, ◌≤◌}
use mathlib.Core.Path.{◌≡◌}
use mathlib.Core.List.{List}
use native.Mathlib.Omega.{arith}
use lib.ListN.{set}
use Rattle.arith.specs.Arrays.{padded}
use Rattle.arith.specs.Ranges.{list_to}
use Rattle.plan.specs.declared.Task.{Task}
use Rattle.plan.specs.declared.Plan.{Plan}
use Rattle.plan.specs.Blocks.{no_task}
use Rattle.plan.specs.Numbers.{task_at}
use Rattle.arith.proofs.ArrayLaws.{values_more}

-- the loop that fills a plan with the tasks of a list of numbers
pub record Put (numbers : List ℕ) (count : ℕ) (q : Plan) (i : ℕ) : Type 0 where
  pub within : i ≤ 16
  pub counted : q.count ≡ count
  pub tasks : q.tasks ≡ padded 16 no_task (list_to i (task_at numbers))

module _ {numbers : List ℕ} {count : ℕ} {q : Plan} {i : ℕ} (at : Put numbers count q i) where
  pub put_more : {t : Task} → i < 16 → t ≡ task_at numbers i → Put numbers count (record { count = q.count; tasks = set q.tasks i t }) (i + 1)
  put_more h e =
      record { within = omega arith; counted = at.counted; tasks = values_more 16 no_task (task_at numbers) q.tasks i _ h at.tasks e }
