-- 01, "Orders and passes": which order is chosen, from what is seen at a moment, wherever that is kept. No byte is read here.
-- Assumes nothing.
use Rattle.std.specs.Prelude.{ℕ, ◌+◌, ◌-◌, ◌%◌, min, max, Bool, not, List, [], ◌∷◌, leb, eqb, drop}
use Rattle.arith.specs.Choice.{pick, both, first}
use Rattle.arith.specs.Sum.{sum_to}
use Rattle.arith.specs.Ranges.{least_to, some_to}
use Rattle.plan.specs.declared.Rest.{Rest}
use Rattle.plan.specs.Times.{time_of}
use Rattle.plan.specs.Levels.{speed_of}
use Rattle.schedule.specs.PlainSchedule.{Timing, Pending, deadline, more_urgent, latest, queue_of}
use Rattle.reclaiming.specs.Replies.{Reply, run_task, stay_idle}

-- what is seen at a moment: its clock, the order that stands (255 and 0 for idle) and, by task number, each task's floor, what is left of its
-- job and its plain ticks left
pub record View : Type 0 where
  pub clock : ℕ
  pub task : ℕ
  pub level : ℕ
  pub floor : ℕ → ℕ
  pub rest : ℕ → Rest
  pub remaining : ℕ → ℕ

-- "the ticks to the next arrival of any task"
abbrev pub next_arrival : Timing → ℕ → ℕ
next_arrival τ clock = least_to τ.count (λ i. τ.period i - clock % τ.period i)

-- 01: "The job's allowance is the sum of the plain ticks left of all jobs at least as urgent as it, itself included, finished or not
-- in the dispatcher."
abbrev pub plain_allowance : Timing → View → ℕ → ℕ
plain_allowance τ v x =
    sum_to τ.count
    (λ j. pick (more_urgent τ (latest τ v.clock x) (latest τ v.clock j)) 0 (v.remaining j))

-- 02, No. 4: "the job is the only open one": no other task's has work left
abbrev pub is_lone : Timing → View → ℕ → Bool
is_lone τ v x = not (some_to τ.count (λ i. both (not (eqb i x)) (not (eqb (v.rest i).work 0))))

-- 02, No. 4: "if the job is the only open one, its allowance is the larger of 01's and the ticks to the next arrival"
abbrev pub with_gap : Bool → ℕ → ℕ → ℕ
with_gap alone plain gap = pick alone (max plain gap) plain

abbrev pub allowance : Timing → View → ℕ → ℕ
allowance τ v x = with_gap (is_lone τ v x) (plain_allowance τ v x) (next_arrival τ v.clock)

-- the open jobs of the dispatcher, most urgent first, each with its work left
abbrev pub open_jobs : Timing → View → List Pending
open_jobs τ v = queue_of τ v.clock (λ i. (v.rest i).work) τ.count

-- 01: "The level is the lowest at which the work left needs no more than the allowance."; 02, No. 8: "the lowest at or above the floor"
abbrev pub lowest_level : List ℕ → ℕ → Rest → ℕ → ℕ
lowest_level speeds floor rest allowed = floor + first (λ (speed : ℕ). leb (time_of speed rest) allowed) (drop floor speeds)

-- a job is running unless the order is to stay idle
abbrev pub running : View → Bool
running v = not (eqb v.task 255)

-- the running job's "time needed at the order's level"
abbrev pub running_time : List ℕ → View → ℕ
running_time speeds v = time_of (speed_of speeds v.level) (v.rest v.task)

-- 01: "The hold is the smaller of that time and the ticks to the next arrival of any task. An idle order's hold is the ticks to the
-- next arrival."
abbrev pub hold_of : List ℕ → Timing → View → ℕ
hold_of speeds τ v =
    pick (eqb v.task 255) (next_arrival τ v.clock)
    (min (running_time speeds v) (next_arrival τ v.clock))

-- the same moment with another order
abbrev pub with_order : View → ℕ → ℕ → View
with_order v task level = record {
  clock = v.clock;
  task = task;
  level = level;
  floor = v.floor;
  rest = v.rest;
  remaining = v.remaining;
}

-- 01: "An order is either to run a task or to stay idle. A run order names the most urgent open job, a level and a hold."
abbrev pub order_for : List ℕ → Timing → View → List Pending → View
order_for speeds τ v [] = with_order v 255 0
order_for speeds τ v (e ∷ q) =
    let x : ℕ = e.job.task in
    with_order v x (lowest_level speeds (v.floor x) (v.rest x) (allowance τ v x))

abbrev pub choose_order : List ℕ → Timing → View → View
choose_order speeds τ v = order_for speeds τ v (open_jobs τ v)

-- the order that stands, with a hold
abbrev pub order_with : View → ℕ → Reply
order_with v hold = pick (eqb v.task 255) (stay_idle hold) (run_task v.task v.level hold)

-- a new order, with its hold
abbrev pub new_order : List ℕ → Timing → View → Reply
new_order speeds τ v = order_with (choose_order speeds τ v) (hold_of speeds τ (choose_order speeds τ v))
