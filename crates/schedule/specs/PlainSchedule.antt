-- 01, "Plan, levels, plain schedule": jobs, urgency and the plain schedule, tick by tick. The field calls the plain schedule the
-- canonical schedule, the open jobs pending, and the plain ticks left of a job its remaining canonical ticks. No job is replaced here.
-- Assumes nothing.
use Rattle.std.specs.Prelude.{ℕ, zero, suc, ◌+◌, ◌-◌, ◌*◌, ◌/◌, ◌%◌, Bool, List, [], ◌∷◌, leb, ltb, eqb}
use Rattle.arith.specs.Choice.{pick, lex}

-- what a schedule sees of a plan: the count of its tasks and, by task number, each one's period and allotment
pub record Timing : Type 0 where
  pub count : ℕ
  pub period : ℕ → ℕ
  pub allotment : ℕ → ℕ

-- 01: "A job is its task and its arrival."
pub record Job : Type 0 where
  pub task : ℕ
  pub arrival : ℕ

-- 01: "the deadline is its next arrival"
abbrev pub deadline : Timing → Job → ℕ
deadline τ j = j.arrival + τ.period j.task

-- 01: "The more urgent of two jobs has the earlier deadline, then the earlier arrival, then the lower task number"
unfoldable pub more_urgent : Timing → Job → Job → Bool
more_urgent τ a b = lex (deadline τ a) (deadline τ b) (lex a.arrival b.arrival (ltb a.task b.task))

-- an open job and its plain ticks left
pub record Pending : Type 0 where
  pub job : Job
  pub remaining : ℕ

-- a job takes its place in the ready queue: behind every more urgent one
abbrev pub enqueue : Timing → Pending → List Pending → List Pending
enqueue τ e [] = e ∷ []
enqueue τ e (f ∷ q) = pick (more_urgent τ f.job e.job) (f ∷ enqueue τ e q) (e ∷ f ∷ q)

-- 01: "each tick goes to the most urgent open job, and a job closes when it has had its allotment"; with none open the tick is lost
abbrev pub serve : List Pending → List Pending
serve [] = []
serve (e ∷ q) = pick (leb e.remaining 1) q (record { job = e.job; remaining = e.remaining - 1 } ∷ q)

-- d ticks taken from a ready queue, most urgent entry first, entries at 0 leaving it
abbrev pub drain : ℕ → List Pending → List Pending
drain d [] = []
drain d (e ∷ q) = pick (ltb d e.remaining) (record { job = e.job; remaining = e.remaining - d } ∷ q) (drain (d - e.remaining) q)

-- a new job of task i at tick t, with its full allotment
abbrev pub new_job : Timing → ℕ → ℕ → Pending
new_job τ t i = record { job = record { task = i; arrival = t }; remaining = τ.allotment i }

-- 01: "Every task has a job arriving at tick 0 and at each multiple of its period": task i's, if one arrives at tick t
abbrev pub arrive_one : Timing → ℕ → ℕ → List Pending → List Pending
arrive_one τ t i q = pick (eqb (t % τ.period i) 0) (enqueue τ (new_job τ t i) q) q

-- the arrivals at tick t of the tasks below n
abbrev pub arrive : Timing → ℕ → ℕ → List Pending → List Pending
arrive τ t zero q = q
arrive τ t (suc i) q = arrive_one τ t i (arrive τ t i q)

-- a book of the plain schedule: its clock and its ready queue, most urgent first
pub record Book : Type 0 where
  pub clock : ℕ
  pub pending : List Pending

-- at tick 0 every task has a job
abbrev pub opened : Timing → Book
opened τ = record { clock = 0; pending = arrive τ 0 τ.count [] }

-- 01, "The run in demand 3": a tick goes to the most urgent open job; "Then the clock rises by 1, and the jobs due there arrive."
abbrev pub tick : Timing → Book → Book
tick τ b = record { clock = suc b.clock; pending = arrive τ (suc b.clock) τ.count (serve b.pending) }

-- d ticks
abbrev pub after : Timing → ℕ → Book → Book
after τ zero b = b
after τ (suc d) b = tick τ (after τ d b)

-- the plain schedule at tick t
abbrev pub canonical_at : Timing → ℕ → Book
canonical_at τ t = after τ t (opened τ)

-- 01: a task's job at tick t is the one that arrived last: at the greatest multiple of its period that is at most t
abbrev pub latest : Timing → ℕ → ℕ → Job
latest τ t i = record { task = i; arrival = t / τ.period i * τ.period i }

-- the ready queue of the tasks below n at tick t, from each task's remaining ticks: "entries with plain ticks left only", most urgent first
abbrev pub queue_one : Timing → ℕ → (ℕ → ℕ) → ℕ → List Pending → List Pending
queue_one τ t left i q = pick (eqb (left i) 0) q (enqueue τ (record { job = latest τ t i; remaining = left i }) q)

abbrev pub queue_of : Timing → ℕ → (ℕ → ℕ) → ℕ → List Pending
queue_of τ t left zero = []
queue_of τ t left (suc i) = queue_one τ t left i (queue_of τ t left i)

-- what a queue has left for task i: 0 where it has no entry
abbrev pub left_in : ℕ → List Pending → ℕ
left_in i [] = 0
left_in i (e ∷ q) = pick (eqb e.job.task i) e.remaining (left_in i q)
