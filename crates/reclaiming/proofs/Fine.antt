-- What a sound state and an accepted pass are, as facts with names.
-- Assumes nothing.
use Prim.Native.Nat.{ℕ, ◌≤◌, ◌<◌}
use mathlib.Core.Path.{◌≡◌, sym, ap, ◌∙◌}
use mathlib.Core.Bool.{Bool, true, false}
use mathlib.Core.List.{List}
use mathlib.Core.Logic.{◌≢◌, ◌⊎◌}
use lib.ListN.{length, get_or, get_or-map}
use Rattle.plan.specs.declared.Task.{Task}
use Rattle.plan.specs.Times.{whole, Within, time_of}
use Rattle.plan.specs.Levels.{speed_of, nominal}
use Rattle.plan.specs.Blocks.{no_task}
use Rattle.schedule.specs.PlainSchedule.{Timing}
use Rattle.reclaiming.specs.Allotments.{timing}
use Rattle.reclaiming.specs.Orders.{next_arrival, open_jobs, running_time, running}
use Rattle.reclaiming.specs.StateBlock.{State, no_entry, queued_in, floor_of, work_of, remaining_of, rest_of, task_of, plan_in}
use Rattle.reclaiming.specs.States.{view_of}
use Rattle.reclaiming.specs.Questions.{order_sound}

-- the nominal speed of a plan
abbrev pub nominal_speed : List ℕ → List Task → ℕ
nominal_speed speeds ts = speed_of speeds (nominal speeds ts)

-- a state's plan, entries and total, as those of a sound one, whatever its clock; its order is not looked at
pub record FineEntries (speeds : List ℕ) (ts : List Task) (s : State) : Type 0 where
  pub plan : plan_in s ≡ ts
  pub left : (i : ℕ) → i < length ts → Within (rest_of s i) (whole (get_or ts i no_task))
  pub closed : (i : ℕ) → i < length ts → work_of s i ≡ 0 → (rest_of s i).fixed ≡ 0
  pub remaining : (i : ℕ) → i < length ts → remaining_of s i ≤ (timing speeds ts).allotment i
  pub total : s.total ≡ queued_in s.entries

-- each task's entry has its floor
pub fine_floor : {speeds : List ℕ} {ts : List Task} {s : State} → FineEntries speeds ts s → (i : ℕ) → floor_of s i ≡ (get_or ts i no_task).floor
fine_floor {s = s} f i =
    ap (λ (t : Task). t.floor) (sym (get_or-map task_of s.entries i no_entry) ∙ ap (λ (l : List Task). get_or l i no_task) f.plan)

-- each task's job can be done at the nominal level in its plain ticks left
abbrev pub Ahead : List ℕ → List Task → State → Type 0
Ahead speeds ts s = (i : ℕ) → i < length ts → time_of (nominal_speed speeds ts) (rest_of s i) ≤ remaining_of s i

-- no job but the order's is open, and its time is at most the ticks to the next arrival
pub record Gap (speeds : List ℕ) (ts : List Task) (s : State) : Type 0 where
  pub others : (i : ℕ) → i < length ts → i ≢ s.task → work_of s i ≡ 0
  pub time : running_time speeds (view_of s) ≤ next_arrival (timing speeds ts) s.clock

-- a sound state of a plan
pub record Fine (speeds : List ℕ) (ts : List Task) (s : State) : Type 0 where
  pub entries : FineEntries speeds ts s
  pub order : order_sound speeds (timing speeds ts) (nominal speeds ts) (view_of s) (open_jobs (timing speeds ts) (view_of s)) ≡ true
  pub pace : Ahead speeds ts s ⊎ Gap speeds ts s

-- a pass that the questions 11 to 14 let through
pub record Accepted (speeds : List ℕ) (τ : Timing) (s : State) (d : ℕ) (finished : Bool) : Type 0 where
  pub some : 1 ≤ d
  pub within : d ≤ next_arrival τ s.clock
  pub runs : finished ≡ true → running (view_of s) ≡ true
  pub time : running (view_of s) ≡ true → d ≤ running_time speeds (view_of s)
  pub unfinished : running (view_of s) ≡ true → finished ≡ false → d < running_time speeds (view_of s)
