-- What the code finds in a state's bytes, as the definitions see it.
-- Assumes nothing.
use Rattle.std.specs.Prelude.{ℕ, ◌+◌, ◌*◌, ◌≤◌, ◌≡◌, Bool, List, eqb, length, drop, get_or}
use Rattle.std.proofs.lemmas.List.Edits.{sets}
use Rattle.arith.specs.Choice.{pick, every}
use Rattle.arith.specs.Sum.{sum_to}
use Rattle.arith.specs.Digits.{number, digits}
use Rattle.schedule.specs.PlainSchedule.{Timing}
use Rattle.reclaiming.specs.declared.Entry.{Entry}
use Rattle.plan.specs.declared.Task.{Task}
use Rattle.plan.specs.declared.Rest.{Rest}
use Rattle.reclaiming.specs.Allotments.{timing}
use Rattle.reclaiming.specs.Fields.{width_of, offset_of}
use Rattle.reclaiming.specs.StateBlock.{State, no_entry, head_fields, entry_fields, work_field, unspent_field, places, end_fields, total_field, head_length, entry_length, total_at, state_length, level_places, task_of, entry_with, entry_from, state_count, level_count, speed_in, decode, plan_in}
use Rattle.arith.specs.Ranges.{list_to}

-- bytes that may hold a state: as many as one has, of at most 16 tasks
pub record Holds (bytes : List ℕ) : Type 0 where
  pub size : length bytes ≡ state_length
  pub few : state_count bytes ≤ places

-- entry i of a block, and where it begins
abbrev pub entry_at : ℕ → ℕ
entry_at i = head_length + entry_length * i

abbrev pub entry_in : List ℕ → ℕ → Entry
entry_in bytes i = entry_from (drop (entry_at i) bytes)

-- where field k of the first entry begins; that of entry i is as many entries further on
abbrev pub field_place : ℕ → ℕ
field_place k = head_length + offset_of entry_fields k

-- the number of some bytes at the same place of entry i, counted from the front of the block
abbrev pub field_in : List ℕ → ℕ → ℕ → ℕ → ℕ
field_in bytes at n i = number 256 n (drop (at + entry_length * i) bytes)

-- the number in field k of entry i
abbrev pub number_in : List ℕ → ℕ → ℕ → ℕ
number_in bytes k i = field_in bytes (field_place k) (width_of entry_fields k) i

-- a block with a number stored in field k of entry i, and in field k in front of the entries
abbrev pub entry_stored : List ℕ → ℕ → ℕ → ℕ → List ℕ
entry_stored bytes k i x = sets bytes (field_place k + entry_length * i) (digits 256 (width_of entry_fields k) x)

abbrev pub head_stored : List ℕ → ℕ → ℕ → List ℕ
head_stored bytes k x = sets bytes (offset_of head_fields k) (digits 256 (width_of head_fields k) x)

-- whether every speed past the count of levels is zero
abbrev pub unused_zero : List ℕ → Bool
unused_zero bytes = every (eqb 0) (drop (level_count bytes) (list_to level_places (speed_in bytes)))

-- what the plain schedule sees of the plan in a block, at a table of speeds
abbrev pub timing_in : List ℕ → List ℕ → Timing
timing_in speeds bytes = timing speeds (plan_in (decode bytes))

-- a function with another value at one place
abbrev pub changed {ℓ} : {A : Type ℓ} → (ℕ → A) → ℕ → A → ℕ → A
changed f i x j = pick (eqb j i) x (f j)

-- the same state with something else left of each task's job, and other plain ticks left; its total stays what it was
abbrev pub with_jobs : State → (ℕ → Rest) → (ℕ → ℕ) → State
with_jobs s left remaining = record {
  clock = s.clock;
  task = s.task;
  level = s.level;
  entries = list_to (length s.entries) (λ i. entry_with (task_of (get_or s.entries i no_entry)) (left i) (remaining i));
  speeds = s.speeds;
  total = s.total;
}

-- a task, and what is left of a job, whose numbers fit their bits
pub record FitTask (t : Task) : Type 0 where
  pub period : t.period ≤ 65535
  pub worst : t.worst ≤ 1048575
  pub fixed : t.fixed ≤ 255
  pub floor : t.floor ≤ 15

pub record FitRest (r : Rest) : Type 0 where
  pub fixed : r.fixed ≤ 255
  pub work : r.work ≤ 16777215

-- a block in which something else is left of task i's job
abbrev pub rest_stored : List ℕ → ℕ → Rest → List ℕ
rest_stored bytes i r = entry_stored (entry_stored bytes work_field i r.work) unspent_field i r.fixed

-- the same state at another clock
abbrev pub with_clock : State → ℕ → State
with_clock s clock = record {
  clock = clock;
  task = s.task;
  level = s.level;
  entries = s.entries;
  speeds = s.speeds;
  total = s.total;
}

-- and with another total
abbrev pub with_total : State → ℕ → State
with_total s total = record {
  clock = s.clock;
  task = s.task;
  level = s.level;
  entries = s.entries;
  speeds = s.speeds;
  total = total;
}

-- a block with a number stored as its total
abbrev pub total_stored : List ℕ → ℕ → List ℕ
total_stored bytes x = sets bytes total_at (digits 256 (width_of end_fields total_field) x)

-- the remaining ticks of a block's first so many tasks, in all
abbrev pub queued_to : List ℕ → ℕ → ℕ
queued_to bytes n = sum_to n (λ i. (entry_in bytes i).remaining)
