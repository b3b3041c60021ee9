-- A whole list of passes played on lent blocks: passes and replies as numbers, and the promises said of those numbers.
-- Assumes nothing.
use Rattle.std.specs.Prelude.{ℕ, zero, suc, ◌/◌, ◌%◌, ◌≡◌, true, List, [], ◌∷◌, ◌++◌, map, eqb, length, take, drop}
use Rattle.arith.specs.Choice.{pick}
use Rattle.plan.specs.declared.Task.{Task}
use Rattle.plan.specs.LevelBlocks.{speeds_in}
use Rattle.plan.specs.Blocks.{tasks_in}
use Rattle.plan.specs.Pairs.{pairs_in}
use Rattle.schedule.specs.PlainSchedule.{Timing, Book, canonical_at}
use Rattle.schedule.specs.Served.{AllotmentsGiven}
use Rattle.reclaiming.specs.Allotments.{timing}
use Rattle.reclaiming.specs.Replies.{Reply, run_task, stay_idle, is_order}
use Rattle.reclaiming.specs.Passes.{Pass}
use Rattle.reclaiming.specs.Books.{Answered, DispatcherBook, actual_of, plain_of}
use Rattle.reclaiming.specs.StateBlock.{state_length}
use Rattle.reclaiming.specs.Calls.{start_number, show_reply, show_buffer, queued_reply}
use Rattle.reclaiming.specs.Run.{trace, bytes_after, started_bytes}
use Rattle.reclaiming.specs.Promises.{OnTime, ClosesByArrival, EarlierClosed, AboveFloor, NamesMostUrgent, Shows, ticks_in, last_order, FollowsBooks, TakesEarliness, OfNewOrders, AllAhead, PassWithin}
use Rattle.reclaiming.specs.Numbers.{reply_number}
use Rattle.std.specs.declared.result.Result.TheVariants.{Ok}
use Rattle.plan.specs.Counted.{Counted, refused}

-- a pass as a number: d in its lower 32 bits, and the next bit says whether the job finished
abbrev pub pass_from : ℕ → Pass
pass_from x = record { d = x % 4294967296; finished = eqb (x / 4294967296 % 2) 1 }

-- the reply that a number stands for
abbrev pub reply_from : ℕ → Reply
reply_from x =
    pick (eqb (x / 256 % 256) 1)
    (run_task (x / 65536 % 256) (x / 16777216 % 256) (x / 4294967296))
    (pick (eqb (x / 256 % 256) 2) (stay_idle (x / 4294967296)) (refused (x % 256)))

-- as many passes as there is room for replies
abbrev pub played_passes : List ℕ → ℕ → List Pass
played_passes passes room = map pass_from (take room passes)

-- the replies as numbers, in their order
abbrev pub reply_numbers : List Answered → List ℕ
reply_numbers answers = map (λ (a : Answered). reply_number a.reply) answers

-- what is answered, or left in a lent block: the run's where the start was accepted, else what was found
abbrev pub left_by {ℓ} : {A : Type ℓ} → ℕ → A → A → A
left_by zero done found = done
left_by (suc n) done found = found

abbrev pub played_state : List ℕ → List ℕ → List ℕ → List ℕ → List Pass → List ℕ
played_state levels block pairs state passes =
    left_by (start_number levels block pairs (length state))
    (bytes_after (started_bytes levels block pairs state) passes ++ drop state_length state)
    state

abbrev pub played_replies : List ℕ → List ℕ → List ℕ → List ℕ → List Pass → List ℕ → List ℕ
played_replies levels block pairs state passes replies =
    left_by (start_number levels block pairs (length state))
    (reply_numbers (trace (started_bytes levels block pairs state) passes) ++ drop (length passes) replies)
    replies

-- the passes with the replies that stand in the lent block
abbrev pub answers_from : List Pass → List ℕ → List Answered
answers_from [] replies = []
answers_from (p ∷ ps) [] = []
answers_from (p ∷ ps) (x ∷ xs) = record { pass = p; reply = reply_from x } ∷ answers_from ps xs

-- what showing the queue after the passes answers, no bytes where the start was refused and nothing is shown; and what it leaves
abbrev pub played_shown : List ℕ → List ℕ → List ℕ → List ℕ → List Pass → ℕ → Counted
played_shown levels block pairs state passes room =
    left_by (start_number levels block pairs (length state))
    (show_reply (bytes_after (started_bytes levels block pairs state) passes) room)
    (Ok 0)

abbrev pub played_queue : List ℕ → List ℕ → List ℕ → List ℕ → List Pass → List ℕ → List ℕ
played_queue levels block pairs state passes lent =
    left_by (start_number levels block pairs (length state))
    (show_buffer (bytes_after (started_bytes levels block pairs state) passes) lent)
    lent

-- the promises, said of the number that was returned and of those that were left in the lent block
module _ (levels block : List ℕ) (first : ℕ) (passes : List Pass) (replies : List ℕ) where
  abbrev speeds : List ℕ
  speeds = speeds_in levels

  abbrev ts : List Task
  ts = tasks_in block

  abbrev τ : Timing
  τ = timing speeds ts

  abbrev answers : List Answered
  answers = answers_from passes replies

  -- the two books after the first n passes
  abbrev pub played_actual : ℕ → DispatcherBook
  played_actual n = actual_of speeds ts (reply_from first) (take n answers)

  abbrev pub played_plain : ℕ → Book
  played_plain n = plain_of speeds ts (take n answers)

  -- demand 3 along the way: after the first n passes, for every n, so after the last one too
  abbrev pub PlayedOnTime : Type 0
  PlayedOnTime = is_order (reply_from first) ≡ true → (n : ℕ) → OnTime speeds τ (played_actual n) (played_plain n)

  -- 02, No. 4: what pass n closes, it closes no later than the first arrival after the plain finish
  abbrev pub PlayedInTime : Type 0
  PlayedInTime = is_order (reply_from first) ≡ true → (n : ℕ) → ClosesByArrival τ (played_actual n) (played_actual (suc n))

  -- the order that stands after them names the most urgent open job
  abbrev pub PlayedMostUrgent : Type 0
  PlayedMostUrgent =
      is_order (reply_from first) ≡ true →
      (n : ℕ) →
      NamesMostUrgent τ (played_actual n) (last_order (reply_from first) (take n answers))

  -- 02, No. 5: before pass n, where the later task of a pair runs in it, the earlier's job that arrived with the running one is closed
  abbrev pub PlayedPairsKept : List ℕ → Type 0
  PlayedPairsKept pairs = is_order (reply_from first) ≡ true → (n : ℕ) → EarlierClosed τ (pairs_in pairs) (played_actual n)

  -- 02, No. 8: the order that stands before pass n runs no task below its floor
  abbrev pub PlayedAboveFloor : Type 0
  PlayedAboveFloor = is_order (reply_from first) ≡ true → (n : ℕ) → AboveFloor ts (played_actual n)

  -- 02, No. 6: the total that all passes leave in the state is the sum over the ready queue of the plain schedule's book
  abbrev pub PlayedTotalTold : List ℕ → Type 0
  PlayedTotalTold left =
      is_order (reply_from first) ≡ true →
      queued_reply (take state_length left) ≡ Ok (ticks_in (played_plain (length passes)).pending)

  -- demand 2: the queue shown after all passes is that of the plain schedule's book
  abbrev pub PlayedQueueShown : List ℕ → Counted → List ℕ → Type 0
  PlayedQueueShown lent answer left = is_order (reply_from first) ≡ true → Shows (played_plain (length passes)).pending lent answer left

  -- demand 2: every reply is the ideal dispatcher's, and every byte that all passes leave in the state is told by the books
  abbrev pub PlayedByBooks : List ℕ → Type 0
  PlayedByBooks left = is_order (reply_from first) ≡ true → FollowsBooks speeds ts (reply_from first) answers passes (take state_length left)

  -- demand 2: every order that is newly chosen has its full earliness
  abbrev pub PlayedEarliness : Type 0
  PlayedEarliness = is_order (reply_from first) ≡ true → OfNewOrders (TakesEarliness speeds ts) speeds ts (reply_from first) answers

  -- the paper's Theorem 1, after the first n passes
  abbrev pub PlayedAhead : Type 0
  PlayedAhead = is_order (reply_from first) ≡ true → (n : ℕ) → AllAhead speeds ts (played_actual n) (played_plain n)

  -- pass n takes 1 to as many ticks as there are to the next arrival, if it is accepted, and jumps neither an arrival nor a deadline
  abbrev pub PlayedWithin : Type 0
  PlayedWithin = is_order (reply_from first) ≡ true → (n : ℕ) → PassWithin speeds ts (reply_from first) answers n

  -- the book of the plain schedule is the plain schedule at the other's clock, in which each job that has arrived is open or was given its
  -- allotment
  abbrev pub PlayedPlainly : Type 0
  PlayedPlainly =
      is_order (reply_from first) ≡ true →
      (n : ℕ) →
      (played_plain n ≡ canonical_at τ (played_actual n).clock) × AllotmentsGiven τ (played_plain n)
