-- 01, "The run in demand 3": the two books of a list of passes and the replies to them. No byte is read here, and nothing comes from the state
-- block.
-- Assumes nothing.
use Rattle.std.specs.Prelude.{ℕ, ◌+◌, List, [], ◌∷◌, get_or}
use Rattle.arith.specs.Choice.{pick}
use Rattle.plan.specs.declared.Task.{Task}
use Rattle.plan.specs.declared.Rest.{Rest}
use Rattle.plan.specs.Times.{whole}
use Rattle.plan.specs.Levels.{speed_of}
use Rattle.plan.specs.Blocks.{no_task}
use Rattle.schedule.specs.PlainSchedule.{Timing, Job, Book, latest, opened, after}
use Rattle.reclaiming.specs.declared.Order.TheVariants.{Run, Idle}
use Rattle.reclaiming.specs.Allotments.{timing}
use Rattle.reclaiming.specs.Replies.{Reply, is_order}
use Rattle.reclaiming.specs.Passes.{Pass, worked_by, arrives_at}
use Rattle.std.specs.declared.result.Result.TheVariants.{Ok, Err}

-- a pass and the reply to it
pub record Answered : Type 0 where
  pub pass : Pass
  pub reply : Reply

-- the dispatcher's book: its clock, the jobs that it has closed, the running task and its level, which are those of "the order last
-- returned" (255 and 0 for none), and what is left of each task's latest job
pub record DispatcherBook : Type 0 where
  pub clock : ℕ
  pub closed : List Job
  pub task : ℕ
  pub level : ℕ
  pub left : ℕ → Rest

-- the book at the start, before an order: nothing is closed, and every task has a whole job
abbrev pub unopened_book : List Task → DispatcherBook
unopened_book ts = record { clock = 0; closed = []; task = 255; level = 0; left = λ i. whole (get_or ts i no_task) }

-- the book with the order that a reply gives; a refusal leaves the last one
abbrev pub ordered : DispatcherBook → Reply → DispatcherBook
ordered b (Ok (Run task level hold)) = record { clock = b.clock; closed = b.closed; task = task; level = level; left = b.left }
ordered b (Ok (Idle hold)) = record { clock = b.clock; closed = b.closed; task = 255; level = 0; left = b.left }
ordered b (Err e) = b

abbrev pub opened_book : List Task → Reply → DispatcherBook
opened_book ts first = ordered (unopened_book ts) first

-- 01: "An accepted pass that says finished closes that task's latest job"; "Nothing else closes a job"
abbrev pub closed_after : Timing → DispatcherBook → Pass → List Job
closed_after τ b p = pick p.finished (latest τ b.clock b.task ∷ b.closed) b.closed

-- what is left of task i's latest job: a whole one where one arrives; of the running one what d ticks at its level leave
abbrev pub left_after : List ℕ → List Task → DispatcherBook → Pass → ℕ → Rest
left_after speeds ts b p i =
    pick (arrives_at (timing speeds ts) (b.clock + p.d) i) (whole (get_or ts i no_task))
    (worked_by b.task (speed_of speeds b.level) p.d p.finished b.left i)

-- "then the clock rises by d"
abbrev pub moved : List ℕ → List Task → DispatcherBook → Pass → DispatcherBook
moved speeds ts b p = record {
  clock = b.clock + p.d;
  closed = closed_after (timing speeds ts) b p;
  task = b.task;
  level = b.level;
  left = left_after speeds ts b p;
}

-- 01: "An accepted pass is one answered with an order. A refused pass changes neither book."
abbrev pub booked : List ℕ → List Task → DispatcherBook → Pass → Reply → DispatcherBook
booked speeds ts b p r = pick (is_order r) (ordered (moved speeds ts b p) r) b

abbrev pub booked_all : List ℕ → List Task → DispatcherBook → List Answered → DispatcherBook
booked_all speeds ts b [] = b
booked_all speeds ts b (a ∷ rest) = booked_all speeds ts (booked speeds ts b a.pass a.reply) rest

-- 01: "The plain schedule's book is fed the plan and the d of each accepted pass, and runs d ticks for it."
abbrev pub ran : Timing → Book → Pass → Reply → Book
ran τ b p (Err e) = b
ran τ b p (Ok (Run task level hold)) = after τ p.d b
ran τ b p (Ok (Idle hold)) = after τ p.d b

abbrev pub ran_all : Timing → Book → List Answered → Book
ran_all τ b [] = b
ran_all τ b (a ∷ rest) = ran_all τ (ran τ b a.pass a.reply) rest

-- the two books of a run as its caller sees it: from the plan, the speeds, the first reply, and the passes with the replies to them
abbrev pub actual_of : List ℕ → List Task → Reply → List Answered → DispatcherBook
actual_of speeds ts first answers = booked_all speeds ts (opened_book ts first) answers

abbrev pub plain_of : List ℕ → List Task → List Answered → Book
plain_of speeds ts answers = ran_all (timing speeds ts) (opened (timing speeds ts)) answers
