-- The ideal dispatcher: from a plan, a table of speeds and a list of passes, the replies that 01's rules give over the two books of demand 3,
-- the books moved by these very replies. It keeps nothing but them, and no byte is read here.
-- Assumes nothing.
use Rattle.std.specs.Prelude.{ℕ, ◌-◌, List, [], ◌∷◌, get_or}
use Rattle.arith.specs.Choice.{pick}
use Rattle.arith.specs.Asking.{first_no}
use Rattle.plan.specs.declared.Task.{Task}
use Rattle.plan.specs.Blocks.{no_task}
use Rattle.schedule.specs.PlainSchedule.{Timing, Book, after, opened, left_in}
use Rattle.reclaiming.specs.Allotments.{timing}
use Rattle.reclaiming.specs.Orders.{View, hold_of, order_with, new_order}
use Rattle.reclaiming.specs.Replies.{Reply, replied_by}
use Rattle.reclaiming.specs.Passes.{Pass, chooses_anew, pass_questions}
use Rattle.reclaiming.specs.Books.{Answered, DispatcherBook, unopened_book, opened_book, moved, booked, ran}

-- what the books of a plan show of their moment: the clock, the order last returned and what is left of each task's latest job by the one, its
-- plain ticks left by the other; the floors are the plan's
abbrev pub view_of_books : List Task → DispatcherBook → Book → View
view_of_books ts actual plain = record {
  clock = actual.clock;
  task = actual.task;
  level = actual.level;
  floor = λ i. (get_or ts i no_task).floor;
  rest = actual.left;
  remaining = λ i. left_in i plain.pending;
}

module _ (speeds : List ℕ) (ts : List Task) where
  abbrev τ : Timing
  τ = timing speeds ts

  -- what they show before the first order, when every task has a whole job
  abbrev pub first_view : View
  first_view = view_of_books ts (unopened_book ts) (opened τ)

  -- the first order is chosen there
  abbrev pub ideal_first : Reply
  ideal_first = new_order speeds τ first_view

  -- what they show once the ticks of a pass are gone, the order still standing
  abbrev pub ticked_view : DispatcherBook → Book → Pass → View
  ticked_view actual plain p = view_of_books ts (moved speeds ts actual p) (after τ p.d plain)

  -- 01: "If a job finished or one arrived, a new order is chosen; otherwise task and level stay and the hold falls by d."
  abbrev pub ideal_order : DispatcherBook → Book → Pass → Reply
  ideal_order actual plain p =
      pick (chooses_anew τ (view_of_books ts actual plain) p.d p.finished)
      (new_order speeds τ (ticked_view actual plain p))
      (order_with (ticked_view actual plain p) (hold_of speeds τ (view_of_books ts actual plain) - p.d))

  -- the reply to a pass: the first no among 11 to 15, or the order
  abbrev pub ideal_reply : DispatcherBook → Book → Pass → Reply
  ideal_reply actual plain p =
      replied_by (first_no (pass_questions speeds τ (view_of_books ts actual plain) p.d p.finished)) (ideal_order actual plain p)

  -- a list of passes with the replies to them, each of which moves the books
  abbrev pub ideal_trace : DispatcherBook → Book → List Pass → List Answered
  ideal_trace actual plain [] = []
  ideal_trace actual plain (p ∷ ps) =
      let r : Reply = ideal_reply actual plain p in
      record { pass = p; reply = r } ∷ ideal_trace (booked speeds ts actual p r) (ran τ plain p r) ps

  -- and from the start on
  abbrev pub ideal_replies : List Pass → List Answered
  ideal_replies passes = ideal_trace (opened_book ts ideal_first) (opened τ) passes
