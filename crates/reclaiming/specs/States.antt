-- 01, "Orders and passes": what a start and a pass make of a state.
-- Assumes nothing.
use Rattle.std.specs.Prelude.{ℕ, ◌+◌, ◌-◌, Bool, List, length, get_or}
use Rattle.arith.specs.Choice.{pick}
use Rattle.arith.specs.Ranges.{list_to}
use Rattle.plan.specs.declared.Task.{Task}
use Rattle.plan.specs.declared.Rest.{Rest}
use Rattle.plan.specs.Times.{whole}
use Rattle.plan.specs.Levels.{speed_of}
use Rattle.plan.specs.Blocks.{no_task}
use Rattle.schedule.specs.PlainSchedule.{Timing, drain, queue_of, left_in}
use Rattle.reclaiming.specs.declared.Entry.{Entry}
use Rattle.reclaiming.specs.Allotments.{timing}
use Rattle.reclaiming.specs.Orders.{View, hold_of, choose_order}
use Rattle.reclaiming.specs.Passes.{worked_by, arrives_at, chooses_anew}
use Rattle.reclaiming.specs.StateBlock.{State, no_entry, queued_in, floor_of, remaining_of, rest_of, task_of, plan_in, entry_with}

-- what a state shows of its moment
abbrev pub view_of : State → View
view_of s = record {
  clock = s.clock;
  task = s.task;
  level = s.level;
  floor = floor_of s;
  rest = rest_of s;
  remaining = remaining_of s;
}

-- the same state with another order
abbrev pub put_order : State → ℕ → ℕ → State
put_order s task level = record {
  clock = s.clock;
  task = task;
  level = level;
  entries = s.entries;
  speeds = s.speeds;
  total = s.total;
}

-- with the order that stands in a view
abbrev pub take_order : State → View → State
take_order s v = put_order s v.task v.level

-- and with the one that is chosen in its own
abbrev pub chosen_state : List ℕ → Timing → State → State
chosen_state speeds τ s = take_order s (choose_order speeds τ (view_of s))

-- 01: "a new job with full worst case and allotment"
abbrev pub new_entry : Timing → List Task → ℕ → Entry
new_entry τ ts i = entry_with (get_or ts i no_task) (whole (get_or ts i no_task)) (τ.allotment i)

-- a state with an entry for each task, whose total is "the full sum": 02, No. 6, "after the start and every accepted pass"
abbrev pub state_with : ℕ → ℕ → ℕ → List Entry → List ℕ → State
state_with clock task level entries speeds = record {
  clock = clock;
  task = task;
  level = level;
  entries = entries;
  speeds = speeds;
  total = queued_in entries;
}

-- at the start every task has a new job, and an order is chosen
abbrev pub start_state : List ℕ → List Task → State
start_state speeds ts =
    chosen_state speeds (timing speeds ts) (state_with 0 255 0 (list_to (length ts) (new_entry (timing speeds ts) ts)) speeds)

-- 01: "d ticks are taken from the queue, most urgent entry first, entries at 0 leaving it"
abbrev pub drained_of : Timing → State → ℕ → ℕ → ℕ
drained_of τ s d i = left_in i (drain d (queue_of τ s.clock (remaining_of s) τ.count))

abbrev pub worked_of : List ℕ → State → ℕ → Bool → ℕ → Rest
worked_of speeds s d finished = worked_by s.task (speed_of speeds s.level) d finished (rest_of s)

-- what the ticks leave of task i's entry, where no job of it arrives
abbrev pub aged_entry : List ℕ → Timing → State → ℕ → Bool → ℕ → Entry
aged_entry speeds τ s d finished i =
    entry_with (task_of (get_or s.entries i no_entry)) (worked_of speeds s d finished i) (drained_of τ s d i)

-- "the clock moves"
abbrev pub clock_after : State → ℕ → ℕ
clock_after s d = s.clock + d

-- "tasks whose period divides the clock get a new job with full worst case and allotment, replacing what stood there"
abbrev pub entry_after : List ℕ → Timing → State → ℕ → Bool → ℕ → Entry
entry_after speeds τ s d finished i =
    pick (arrives_at τ (clock_after s d) i) (new_entry τ (plan_in s) i) (aged_entry speeds τ s d finished i)

abbrev pub moved_state : List ℕ → Timing → State → ℕ → Bool → State
moved_state speeds τ s d finished =
    state_with (clock_after s d) s.task s.level (list_to τ.count (entry_after speeds τ s d finished)) s.speeds

-- 01: "If a job finished or one arrived, a new order is chosen; otherwise task and level stay and the hold falls by d."
abbrev pub passed_state : List ℕ → Timing → State → ℕ → Bool → State
passed_state speeds τ s d finished =
    pick (chooses_anew τ (view_of s) d finished)
    (chosen_state speeds τ (moved_state speeds τ s d finished))
    (moved_state speeds τ s d finished)

abbrev pub passed_hold : List ℕ → Timing → State → ℕ → Bool → ℕ
passed_hold speeds τ s d finished =
    pick (chooses_anew τ (view_of s) d finished)
    (hold_of speeds τ (view_of (passed_state speeds τ s d finished)))
    (hold_of speeds τ (view_of s) - d)
