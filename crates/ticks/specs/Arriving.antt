-- What arrivals make of a block and of a state.
-- Assumes nothing.
use Rattle.std.specs.Prelude.{ℕ, ◌<◌, ◌≤◌, List, get_or}
use Rattle.arith.specs.Choice.{pick}
use Rattle.plan.specs.declared.Task.{Task}
use Rattle.plan.specs.Times.{whole, task_time}
use Rattle.reclaiming.specs.StateBlock.{State, no_entry, remaining_of, rest_of, task_of, remaining_field}
use Rattle.state.specs.Code.{entry_in, entry_stored, rest_stored, with_jobs}
use Rattle.urgency.specs.Code.{due_at}

-- each of so many tasks' allotment at a speed fits the two bytes that the remaining ticks have
abbrev pub Allots : List ℕ → ℕ → ℕ → Type 0
Allots bytes count speed = (i : ℕ) → i < count → task_time speed (task_of (entry_in bytes i)) ≤ 65535

-- the block in which task i has a new job at a speed
abbrev pub renewed_bytes : List ℕ → ℕ → ℕ → List ℕ
renewed_bytes bytes i speed =
    let t : Task = task_of (entry_in bytes i) in
    entry_stored (rest_stored bytes i (whole t)) remaining_field i (task_time speed t)

-- the state in which each task whose deadline is the clock has a new job at a speed
abbrev pub arrived_state : List ℕ → ℕ → ℕ → State → State
arrived_state keys clock speed s =
    with_jobs s
    (λ i. pick (due_at keys clock i) (whole (task_of (get_or s.entries i no_entry))) (rest_of s i))
    (λ i. pick (due_at keys clock i) (task_time speed (task_of (get_or s.entries i no_entry))) (remaining_of s i))
