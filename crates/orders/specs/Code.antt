-- What the code holds of an order, as the definitions see it.
-- Assumes nothing.
use Rattle.std.specs.Prelude.{ℕ, ◌<◌, ◌≤◌, min, ◌≡◌, List, eqb, length}
use Rattle.arith.specs.Choice.{pick}
use Rattle.plan.specs.declared.Rest.{Rest}
use Rattle.plan.specs.Times.{time_of}
use Rattle.plan.specs.Levels.{speed_of}
use Rattle.reclaiming.specs.Replies.{Reply, run_task, stay_idle}
use Rattle.reclaiming.specs.Orders.{running_time, hold_of, order_with}
use Rattle.reclaiming.specs.StateBlock.{State, floor_of, remaining_of, rest_of, decode}
use Rattle.reclaiming.specs.States.{chosen_state, view_of}
use Rattle.state.specs.Code.{timing_in}
use Rattle.orders.specs.declared.Choice.{Choice}

-- the order of a state: its task, its level, and the time that the job it runs needs; 0 while idle
abbrev pub choice_of : List ℕ → State → Choice
choice_of speeds s = record {
  task = s.task;
  level = s.level;
  time = pick (eqb s.task 255) 0 (running_time speeds (view_of s));
}

-- an order that runs task i at a level, for what is left of its job
abbrev pub run_of : List ℕ → ℕ → ℕ → Rest → Choice
run_of speeds i level rest = record { task = i; level = level; time = time_of (speed_of speeds level) rest }

-- the state with the order that is chosen in a block, and that order as it is answered
abbrev pub chosen_in : List ℕ → List ℕ → State
chosen_in speeds bytes = chosen_state speeds (timing_in speeds bytes) (decode bytes)

abbrev pub chosen_reply : List ℕ → List ℕ → Reply
chosen_reply speeds bytes = order_with (view_of (chosen_in speeds bytes)) (hold_of speeds (timing_in speeds bytes) (view_of (chosen_in speeds bytes)))

-- the hold of an order, where the next arrival is so many ticks away
abbrev pub hold_by : Choice → ℕ → ℕ
hold_by c next = pick (eqb c.task 255) next (min c.time next)

-- an order with a hold, as it is answered
abbrev pub order_of : Choice → ℕ → Reply
order_of c hold = pick (eqb c.task 255) (stay_idle hold) (run_task c.task c.level hold)

-- the order of a state is to stay idle, or runs one of its tasks at one of so many levels
pub record Runnable (levels : ℕ) (s : State) : Type 0 where
  pub task : (s.task ≡ 255 → ⊥) → s.task < length s.entries
  pub level : (s.task ≡ 255 → ⊥) → s.level < levels

-- at a level, every job can be done in its plain ticks left; and each floor is a level
pub record Enough (speeds : List ℕ) (s : State) (highest : ℕ) : Type 0 where
  pub level : highest < length speeds
  pub floors : (i : ℕ) → i < length s.entries → floor_of s i < length speeds
  pub each : (i : ℕ) → i < length s.entries → time_of (speed_of speeds highest) (rest_of s i) ≤ remaining_of s i
