-- What is promised of the dispatcher as a whole, each as a type that a proof has.
-- Assumes nothing.
use Rattle.std.specs.Prelude.{ℕ, suc, ◌+◌, ◌<◌, ◌≤◌, ◌≡◌, Bool, true, false, List, [], ◌∷◌, ◌⊎◌, eqb, length, get_or, take}
use Rattle.arith.specs.Choice.{pick, both}
use Rattle.arith.specs.Sum.{sum_of}
use Rattle.arith.specs.Ranges.{list_to}
use Rattle.plan.specs.declared.Task.{Task}
use Rattle.plan.specs.Times.{time_of}
use Rattle.plan.specs.Levels.{speed_of}
use Rattle.plan.specs.LevelBlocks.{speeds_in}
use Rattle.plan.specs.Blocks.{no_task, tasks_in}
use Rattle.plan.specs.Pairs.{Pair, pairs_in, pair_number}
use Rattle.plan.specs.Answers.{room_number, written_by, stored_by}
use Rattle.schedule.specs.PlainSchedule.{Timing, Job, Pending, Book, deadline, left_in, more_urgent, latest, canonical_at}
use Rattle.schedule.specs.Feasibility.{In}
use Rattle.schedule.specs.Served.{Arrived, OpenPlain, AllotmentsGiven}
use Rattle.reclaiming.specs.declared.Order.TheVariants.{Run, Idle}
use Rattle.reclaiming.specs.Allotments.{timing}
use Rattle.reclaiming.specs.Orders.{View, next_arrival, plain_allowance}
use Rattle.reclaiming.specs.Replies.{Reply, run_task, stay_idle, is_order}
use Rattle.reclaiming.specs.Passes.{Pass, chooses_anew, largest_clock}
use Rattle.reclaiming.specs.Books.{Answered, DispatcherBook, actual_of, plain_of}
use Rattle.reclaiming.specs.Ideal.{view_of_books, first_view, ticked_view, ideal_first, ideal_replies}
use Rattle.reclaiming.specs.Earliness.{time_at_nominal, earliness, full_time}
use Rattle.reclaiming.specs.StateBlock.{State, rest_of, entry_with, encode, decode, state_length}
use Rattle.reclaiming.specs.States.{view_of, state_with}
use Rattle.reclaiming.specs.Questions.{sound}
use Rattle.reclaiming.specs.Calls.{start_number, start_reply, pass_reply, queue_bytes, show_reply, show_buffer, queued_reply}
use Rattle.reclaiming.specs.Run.{trace, bytes_after, started_bytes}
use Rattle.std.specs.declared.result.Result.TheVariants.{Ok, Err}
use Rattle.plan.specs.Counted.{Counted, refused}

-- a job is open in the dispatcher's book "from its arrival until the book closes it"
pub record OpenActual (τ : Timing) (b : DispatcherBook) (j : Job) : Type 0 where
  pub arrived : Arrived τ b.clock j
  pub unclosed : In j b.closed → ⊥

-- the running job's time left at the order's level, by the book
abbrev pub time_left : List ℕ → DispatcherBook → ℕ
time_left speeds b = time_of (speed_of speeds b.level) (b.left b.task)

-- 02, No. 4: "a lone job may be open and its plain job closed, if its time left at the order's level is at most the ticks to the next
-- arrival": it is the running one, no other is open, and that time is by the book
pub record InGap (speeds : List ℕ) (τ : Timing) (b : DispatcherBook) (j : Job) : Type 0 where
  pub runs : j ≡ latest τ b.clock b.task
  pub alone : (k : Job) → OpenActual τ b k → k ≡ j
  pub time : time_left speeds b ≤ next_arrival τ b.clock

-- demand 3, of the two books: what is open or closed in them, and what they share
pub record OnTime (speeds : List ℕ) (τ : Timing) (actual : DispatcherBook) (plain : Book) : Type 0 where
  -- "The two share the plan, the clock and every arrival": what is open in the plain schedule's book has arrived by the clock
  pub clocks : actual.clock ≡ plain.clock
  pub arrivals : (j : Job) → OpenPlain plain j → Arrived τ actual.clock j
  -- "every job still open in the dispatcher is open in the plain schedule of that plan too"; 02, No. 4: "Demand 3 then has one exception"
  pub ahead : (j : Job) → OpenActual τ actual j → OpenPlain plain j ⊎ InGap speeds τ actual j
  -- 02, No. 4: "At each arrival tick every older open job is still open in the plain schedule": where a job k arrives at the clock, tick 0
  -- among them. The jobs that arrive there are open in it too, so there is no exception there.
  pub at_arrivals :
      (k : Job) →
      Arrived τ actual.clock k →
      k.arrival ≡ actual.clock →
      (j : Job) →
      OpenActual τ actual j →
      OpenPlain plain j
  -- "and in both every job whose deadline has come is closed"; 02, No. 4: "and all deadlines hold"
  pub actual_closed : (j : Job) → Arrived τ actual.clock j → deadline τ j ≤ actual.clock → In j actual.closed
  pub plain_closed : (j : Job) → Arrived τ plain.clock j → deadline τ j ≤ plain.clock → OpenPlain plain j → ⊥

-- 02, No. 4: "A lone job that closes after its plain finish closes no later than the first arrival after that plain finish." Of the books
-- before and after a pass that closes job j, which the plain schedule has closed by a tick, and of any arrival after that tick.
abbrev pub ClosesByArrival : Timing → DispatcherBook → DispatcherBook → Type 0
ClosesByArrival τ before after =
    (j : Job) →
    OpenActual τ before j →
    In j after.closed →
    (finish : ℕ) →
    Arrived τ finish j →
    (OpenPlain (canonical_at τ finish) j → ⊥) →
    (k : Job) →
    Arrived τ k.arrival k →
    finish < k.arrival →
    after.clock ≤ k.arrival

-- an accepted pass, from the book before it: at least a tick, and no more than there are to the next arrival at the book's clock
pub record WithinArrival (τ : Timing) (before : DispatcherBook) (p : Pass) : Type 0 where
  pub some : 1 ≤ p.d
  pub most : p.d ≤ next_arrival τ before.clock

-- so a pass jumps neither an arrival nor a deadline: after it the clock is no later than any arrival that was still to come, nor than the
-- deadline of any job that was open. What it closes it closes by its deadline.
pub record JumpsNothing (τ : Timing) (before after : DispatcherBook) : Type 0 where
  pub arrivals : (k : Job) → Arrived τ k.arrival k → before.clock < k.arrival → after.clock ≤ k.arrival
  pub deadlines : (j : Job) → OpenActual τ before j → after.clock ≤ deadline τ j

-- the n-th pass of a run and the reply to it, from 0 on; past the last, a refusal
abbrev pub answer_at : List Answered → ℕ → Answered
answer_at answers n = get_or answers n (record { pass = record { d = 0; finished = false }; reply = refused 0 })

-- both, of the n-th pass of a run as its caller sees it
pub record PassWithin (speeds : List ℕ) (ts : List Task) (first : Reply) (answers : List Answered) (n : ℕ) : Type 0 where
  pub accepted :
      is_order (answer_at answers n).reply ≡ true →
      WithinArrival (timing speeds ts) (actual_of speeds ts first (take n answers)) (answer_at answers n).pass
  pub jumps : JumpsNothing (timing speeds ts) (actual_of speeds ts first (take n answers)) (actual_of speeds ts first (take (suc n) answers))

-- 01: "A run order names the most urgent open job"
pub record MostUrgent (τ : Timing) (b : DispatcherBook) (j : Job) : Type 0 where
  pub is_open : OpenActual τ b j
  pub most_urgent : (k : Job) → OpenActual τ b k → (k ≡ j) ⊎ (more_urgent τ j k ≡ true)

-- an order names the most urgent job that is open in the dispatcher's book, and is to stay idle exactly if none is
abbrev pub NamesMostUrgent : Timing → DispatcherBook → Reply → Type 0
NamesMostUrgent τ b (Ok (Run task level hold)) = MostUrgent τ b (latest τ b.clock task)
NamesMostUrgent τ b (Ok (Idle hold)) = (j : Job) → OpenActual τ b j → ⊥
NamesMostUrgent τ b (Err e) = ⊥

-- 02, No. 5: the job of a task "that arrived at the same tick" as the running one
abbrev pub arrived_with : Timing → DispatcherBook → ℕ → Job
arrived_with τ b i = record { task = i; arrival = (latest τ b.clock b.task).arrival }

-- 02, No. 5: "no job of the later task first runs while the earlier's job that arrived at the same tick is open": where a pair's later task
-- is the running one, for the first time or not, that job is closed
abbrev pub EarlierClosed : Timing → List Pair → DispatcherBook → Type 0
EarlierClosed τ pairs b = (p : Pair) → In p pairs → b.task ≡ p.later → In (arrived_with τ b p.earlier) b.closed

-- 02, No. 8: "The valve never crawls.": by the book, the order that stands runs no task below its floor; an idle one names 255, a number that
-- no task has, so there is no floor
abbrev pub AboveFloor : List Task → DispatcherBook → Type 0
AboveFloor ts b = (get_or ts b.task no_task).floor ≤ b.level

-- "on an accepted plan": starting answered with an order, so the level block before it and the pairs with it were accepted too
abbrev pub Started : List ℕ → List ℕ → List ℕ → List ℕ → Type 0
Started levels block pairs buffer = is_order (start_reply levels block pairs (length buffer)) ≡ true

-- a queue is shown in a lent buffer: 9 if it is not long enough, else the count of the queue's bytes, and these at its front
pub record Shows (queue : List Pending) (lent : List ℕ) (answer : Counted) (left : List ℕ) : Type 0 where
  pub answers : answer ≡ written_by (room_number (length (queue_bytes queue)) (length lent)) (queue_bytes queue)
  pub leaves : left ≡ stored_by (room_number (length (queue_bytes queue)) (length lent)) (queue_bytes queue) lent

-- a run: a start on a lent buffer, over a level block, then any list of passes
module _ (levels block pairs buffer : List ℕ) (passes : List Pass) where
  abbrev pub replies : List Answered
  replies = trace (started_bytes levels block pairs buffer) passes

  abbrev pub state_after : List ℕ
  state_after = bytes_after (started_bytes levels block pairs buffer) passes

  abbrev pub actual_book : DispatcherBook
  actual_book = actual_of (speeds_in levels) (tasks_in block) (start_reply levels block pairs (length buffer)) replies

  abbrev pub plain_book : Book
  plain_book = plain_of (speeds_in levels) (tasks_in block) replies

-- Demand 3, in one piece: for every level block, every accepted start and every list of passes, refused ones included. 02, No. 1: "Demands
-- 2 and 3 are shown once for any accepted table, not for each."
abbrev pub Demand3 : Type 0
Demand3 =
    (levels block pairs buffer : List ℕ) (passes : List Pass) →
    Started levels block pairs buffer →
    OnTime (speeds_in levels) (timing (speeds_in levels) (tasks_in block)) (actual_book levels block pairs buffer passes) (plain_book levels block pairs buffer passes)

-- 02, No. 4, of every pass of a run: the n-th of any list
abbrev pub ClosesInTime : Type 0
ClosesInTime =
    (levels block pairs buffer : List ℕ) (passes : List Pass) (n : ℕ) →
    Started levels block pairs buffer →
    ClosesByArrival (timing (speeds_in levels) (tasks_in block)) (actual_book levels block pairs buffer (take n passes))
    (actual_book levels block pairs buffer (take (suc n) passes))

-- Every accepted pass of a run takes 1 to as many ticks as there are to the next arrival, and no pass jumps an arrival or a deadline.
abbrev pub PassesWithin : Type 0
PassesWithin =
    (levels block pairs buffer : List ℕ) (passes : List Pass) (n : ℕ) →
    Started levels block pairs buffer →
    PassWithin (speeds_in levels) (tasks_in block) (start_reply levels block pairs (length buffer)) (replies levels block pairs buffer passes) n

-- The plain schedule's book, fed pass by pass, is the plain schedule at the dispatcher's clock: `OnTime` and `ClosesByArrival` speak of one.
abbrev pub OneSchedule : Type 0
OneSchedule =
    (levels block pairs buffer : List ℕ) (passes : List Pass) →
    Started levels block pairs buffer →
    plain_book levels block pairs buffer passes
    ≡ canonical_at (timing (speeds_in levels) (tasks_in block)) (actual_book levels block pairs buffer passes).clock

-- Demand 3: "The two share the plan, the clock and every arrival", and a job closes "by its own end": in the plain schedule's book each job that
-- has arrived is open or was given its whole allotment.
abbrev pub EveryArrival : Type 0
EveryArrival =
    (levels block pairs buffer : List ℕ) (passes : List Pass) →
    Started levels block pairs buffer →
    AllotmentsGiven (timing (speeds_in levels) (tasks_in block)) (plain_book levels block pairs buffer passes)

-- Demand 2: "The queue shown is the ready queue of the plain schedule at that tick, from any accepted start on."
-- Said of the call: of what showing answers and leaves, for any lent buffer.
abbrev pub QueueShown : Type 0
QueueShown =
    (levels block pairs buffer : List ℕ) (passes : List Pass) (lent : List ℕ) →
    Started levels block pairs buffer →
    Shows (plain_book levels block pairs buffer passes).pending lent
    (show_reply (state_after levels block pairs buffer passes) (length lent))
    (show_buffer (state_after levels block pairs buffer passes) lent)

-- 02, No. 6: "how many plain ticks are queued in all": the sum over a ready queue
abbrev pub ticks_in : List Pending → ℕ
ticks_in q = sum_of (λ (e : Pending). e.remaining) q

-- 02, No. 6: the total "equals the full sum after the start and every accepted pass". Said of the call: after any run what it answers is
-- the sum over the ready queue of the plain schedule's book.
abbrev pub TotalTold : Type 0
TotalTold =
    (levels block pairs buffer : List ℕ) (passes : List Pass) →
    Started levels block pairs buffer →
    queued_reply (state_after levels block pairs buffer passes) ≡ Ok (ticks_in (plain_book levels block pairs buffer passes).pending)

-- A started state is sound, and so is every state that a pass leaves: in a run refusal 10 never comes.
abbrev pub StaysSound : Type 0
StaysSound =
    (levels block pairs buffer : List ℕ) (passes : List Pass) →
    Started levels block pairs buffer →
    sound (state_after levels block pairs buffer passes) ≡ true

-- Its speeds stay those that were loaded.
abbrev pub SameSpeeds : Type 0
SameSpeeds =
    (levels block pairs buffer : List ℕ) (passes : List Pass) →
    Started levels block pairs buffer →
    (decode (state_after levels block pairs buffer passes)).speeds ≡ speeds_in levels

-- What is left of each task's latest job by the dispatcher's book, which takes nothing from the state, is what the state holds.
abbrev pub SameLeft : Type 0
SameLeft =
    (levels block pairs buffer : List ℕ) (passes : List Pass) →
    Started levels block pairs buffer →
    (i : ℕ) →
    i < length (tasks_in block) →
    (actual_book levels block pairs buffer passes).left i ≡ rest_of (decode (state_after levels block pairs buffer passes)) i

-- 02, No. 5, "in a run as in demand 3", of the dispatcher's book after any list of passes. That is the book before the pass that comes next,
-- so it is said of every pass in which a later task runs, the accepted ones among them.
abbrev pub PairsKept : Type 0
PairsKept =
    (levels block pairs buffer : List ℕ) (passes : List Pass) →
    Started levels block pairs buffer →
    EarlierClosed (timing (speeds_in levels) (tasks_in block)) (pairs_in pairs) (actual_book levels block pairs buffer passes)

-- 02, No. 8: after any list of passes, so of every order of a run.
abbrev pub NeverCrawls : Type 0
NeverCrawls =
    (levels block pairs buffer : List ℕ) (passes : List Pass) →
    Started levels block pairs buffer →
    AboveFloor (tasks_in block) (actual_book levels block pairs buffer passes)

-- What is answered about a list before the start is what starting with it is answered; then only the room is left to ask.
abbrev pub AskedBefore : Type 0
AskedBefore =
    (levels block pairs : List ℕ) (room : ℕ) →
    start_number levels block pairs room
    ≡ pick (eqb (pair_number levels block pairs) 0) (room_number state_length room) (pair_number levels block pairs)

-- an order to run
abbrev pub is_run : Reply → Bool
is_run (Ok (Run task level hold)) = true
is_run (Ok (Idle hold)) = false
is_run (Err e) = false

-- a reply's hold
abbrev pub hold_in : Reply → ℕ
hold_in (Ok (Run task level hold)) = hold
hold_in (Ok (Idle hold)) = hold
hold_in (Err e) = 0

-- the order that stands after a reply: a refusal leaves the last one
abbrev pub order_after : Reply → Reply → Reply
order_after last (Ok (Run task level hold)) = run_task task level hold
order_after last (Ok (Idle hold)) = stay_idle hold
order_after last (Err e) = last

abbrev pub last_order : Reply → List Answered → Reply
last_order last [] = last
last_order last (a ∷ rest) = last_order (order_after last a.reply) rest

-- After any run the order that stands names the most urgent open job.
abbrev pub RunsMostUrgent : Type 0
RunsMostUrgent =
    (levels block pairs buffer : List ℕ) (passes : List Pass) →
    Started levels block pairs buffer →
    NamesMostUrgent (timing (speeds_in levels) (tasks_in block)) (actual_book levels block pairs buffer passes)
    (last_order (start_reply levels block pairs (length buffer)) (replies levels block pairs buffer passes))

-- the state that the books make: their clock and order, and each task with what is left of its job by the one and by the other
abbrev pub state_of_books : List ℕ → List Task → DispatcherBook → Book → State
state_of_books speeds ts actual plain =
    state_with actual.clock actual.task actual.level
    (list_to (length ts) (λ i. entry_with (get_or ts i no_task) (actual.left i) (left_in i plain.pending))) speeds

-- The first order and every reply of a run, refusals among them, are the ideal dispatcher's: those to its first n passes, for every n. After
-- the run its state shows what the books show, and every one of its bytes is told by them.
pub record FollowsBooks (speeds : List ℕ) (ts : List Task) (order : Reply) (answers : List Answered) (passes : List Pass) (bytes : List ℕ) : Type 0 where
  pub first : order ≡ ideal_first speeds ts
  pub each : (n : ℕ) → take n answers ≡ ideal_replies speeds ts (take n passes)
  pub view : view_of (decode bytes) ≡ view_of_books ts (actual_of speeds ts order answers) (plain_of speeds ts answers)
  pub stored : bytes ≡ encode (state_of_books speeds ts (actual_of speeds ts order answers) (plain_of speeds ts answers))

-- Demand 2: "Each order is the one that the Dynamic Reclaiming Algorithm (RTSS 2001) gives", as 01 puts it: for every accepted start and every
-- list of passes.
abbrev pub IdealRun : Type 0
IdealRun =
    (levels block pairs buffer : List ℕ) (passes : List Pass) →
    Started levels block pairs buffer →
    FollowsBooks (speeds_in levels) (tasks_in block) (start_reply levels block pairs (length buffer)) (replies levels block pairs buffer passes) passes
    (state_after levels block pairs buffer passes)

-- No dead end: after any run, the pass that the order itself suggests (its hold; finished exactly if that is the whole time needed) is
-- accepted, and so is every earlier finish, as long as the clock stays within the largest.
pub record Open (speeds bytes : List ℕ) (order : Reply) (book : DispatcherBook) : Type 0 where
  pub suggested :
      book.clock + hold_in order ≤ largest_clock →
      is_order (pass_reply bytes (hold_in order) (both (is_run order) (eqb (hold_in order) (time_left speeds book)))) ≡ true
  pub early :
      (d : ℕ) →
      1 ≤ d →
      d ≤ hold_in order →
      book.clock + d ≤ largest_clock →
      is_run order ≡ true →
      is_order (pass_reply bytes d true) ≡ true

abbrev pub NoDeadEnd : Type 0
NoDeadEnd =
    (levels block pairs buffer : List ℕ) (passes : List Pass) →
    Started levels block pairs buffer →
    Open (speeds_in levels) (state_after levels block pairs buffer passes)
    (last_order (start_reply levels block pairs (length buffer)) (replies levels block pairs buffer passes))
    (actual_book levels block pairs buffer passes)

-- the paper's Theorem 1, of an open job: it is open in the plain schedule, and its time left at nominal is at most its plain ticks left
pub record AheadOfPlain (speeds : List ℕ) (ts : List Task) (actual : DispatcherBook) (plain : Book) (j : Job) : Type 0 where
  pub left : ℕ
  pub entry : In (record { job = j; remaining = left }) plain.pending
  pub ahead : time_at_nominal speeds ts (view_of_books ts actual plain) j.task ≤ left

-- the paper: "At any time t during the execution of GDRA, w_i(t) ≤ rem_i(t), for any ready task T_i"; with rule 5.3, of every open job but the
-- lone one in the gap
abbrev pub AllAhead : List ℕ → List Task → DispatcherBook → Book → Type 0
AllAhead speeds ts actual plain =
    (j : Job) →
    OpenActual (timing speeds ts) actual j →
    AheadOfPlain speeds ts actual plain j ⊎ InGap speeds (timing speeds ts) actual j

-- Theorem 1, after any list of passes.
abbrev pub Theorem1 : Type 0
Theorem1 =
    (levels block pairs buffer : List ℕ) (passes : List Pass) →
    Started levels block pairs buffer →
    AllAhead (speeds_in levels) (tasks_in block) (actual_book levels block pairs buffer passes) (plain_book levels block pairs buffer passes)

-- an order newly chosen, to run task x at a level: the job is ahead, so the earliness cuts nothing off, and the level is the lowest, at or
-- above the floor, at which the job's time is at most its time at nominal and the full earliness, or, alone, the ticks to the next arrival if
-- these are more
pub record FullEarliness (speeds : List ℕ) (ts : List Task) (v : View) (x level : ℕ) : Type 0 where
  pub ahead : time_at_nominal speeds ts v x ≤ v.remaining x
  pub exact : plain_allowance (timing speeds ts) v x ≡ time_at_nominal speeds ts v x + earliness speeds ts v x
  pub meets : time_of (speed_of speeds level) (v.rest x) ≤ full_time speeds ts v x
  pub floor : v.floor x ≤ level
  pub lowest : (l : ℕ) → v.floor x ≤ l → l < level → full_time speeds ts v x < time_of (speed_of speeds l) (v.rest x)

abbrev pub TakesEarliness : List ℕ → List Task → View → Reply → Type 0
TakesEarliness speeds ts v (Ok (Run x level hold)) = FullEarliness speeds ts v x level
TakesEarliness speeds ts v (Ok (Idle hold)) = Unit {0}
TakesEarliness speeds ts v (Err e) = Unit {0}

-- of every order of a run that is newly chosen, at the moment that the books then show: the first one, and that of an accepted pass in which
-- a job finished or one arrived
pub record OfNewOrders (P : View → Reply → Type 0) (speeds : List ℕ) (ts : List Task) (first : Reply) (answers : List Answered) : Type 0 where
  pub at_first : P (first_view speeds ts) first
  pub at_pass :
      (n : ℕ) →
      is_order (answer_at answers n).reply ≡ true →
      chooses_anew (timing speeds ts) (view_of_books ts (actual_of speeds ts first (take n answers)) (plain_of speeds ts (take n answers))) (answer_at answers n).pass.d
      (answer_at answers n).pass.finished
      ≡ true →
      P (ticked_view speeds ts (actual_of speeds ts first (take n answers)) (plain_of speeds ts (take n answers)) (answer_at answers n).pass)
      (answer_at answers n).reply

-- Demand 2: "with its full earliness".
abbrev pub WithFullEarliness : Type 0
WithFullEarliness =
    (levels block pairs buffer : List ℕ) (passes : List Pass) →
    Started levels block pairs buffer →
    OfNewOrders (TakesEarliness (speeds_in levels) (tasks_in block)) (speeds_in levels) (tasks_in block)
    (start_reply levels block pairs (length buffer)) (replies levels block pairs buffer passes)
