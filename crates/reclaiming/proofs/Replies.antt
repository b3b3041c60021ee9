-- Replies: an order that stands in a state, as the reply that it is; refusals, and replies that are none.
-- Assumes nothing.
use Prim.Native.Nat.{ℕ, zero, suc}
use mathlib.Core.Path.{◌≡◌, refl, sym, ap}
use mathlib.Core.Bool.{true, true≢false, not}
use mathlib.Core.List.{List}
use borrow.Author.Tests.{eq-eqb, ne_eqb}
use Rattle.arith.specs.Choice.{pick}
use Rattle.arith.proofs.Tests.{eq_yes, eq_not, test_eq}
use Rattle.plan.specs.declared.Task.{Task}
use Rattle.schedule.specs.PlainSchedule.{Book}
use Rattle.reclaiming.specs.Allotments.{timing}
use Rattle.reclaiming.specs.Orders.{order_with, running}
use Rattle.reclaiming.specs.Replies.{Reply, run_task, stay_idle, replied_by, is_order}
use Rattle.reclaiming.specs.Passes.{Pass}
use Rattle.reclaiming.specs.Books.{DispatcherBook, ordered, booked, ran}
use Rattle.reclaiming.specs.StateBlock.{State}
use Rattle.reclaiming.specs.States.{view_of}
use Rattle.reclaiming.specs.Promises.{is_run, hold_in, order_after}
use Rattle.plan.specs.Counted.{refused}

-- it is to stay idle, or to run the state's task at its level
pub data OrderView (s : State) (hold : ℕ) : Reply → Type 0 where
  is_idle : s.task ≡ 255 → OrderView s hold (stay_idle hold)
  is_run_lem : (s.task ≡ 255 → ⊥) → OrderView s hold (run_task s.task s.level hold)

pub view_order : (s : State) (hold : ℕ) → OrderView s hold (order_with (view_of s) hold)
view_order s hold =
    elim (test_eq s.task 255) as (λ t _. OrderView s hold (pick t (stay_idle hold) (run_task s.task s.level hold)))
    [ eq_yes e ↦ is_idle e | eq_not e ↦ is_run_lem e ]

-- what is read off it
module _ (s : State) (hold : ℕ) where
  pub order_accepted : is_order (order_with (view_of s) hold) ≡ true
  order_accepted = elim (view_order s hold) as (λ r _. is_order r ≡ true) [ is_idle e ↦ refl | is_run_lem e ↦ refl ]

  -- a book has its task and its level; while idle that is 0
  pub order_booked :
      (s.task ≡ 255 → s.level ≡ 0) →
      (b : DispatcherBook) →
      ordered b (order_with (view_of s) hold)
      ≡ record { clock = b.clock; closed = b.closed; task = s.task; level = s.level; left = b.left }
  order_booked idle b =
      elim (view_order s hold)
      as (λ r _. ordered b r ≡ record { clock = b.clock; closed = b.closed; task = s.task; level = s.level; left = b.left }) [
        | is_idle e ↦ λ i. record { clock = b.clock; closed = b.closed; task = sym e i; level = sym (idle e) i; left = b.left }
        | is_run_lem e ↦ refl
      ]

  pub order_runs : is_run (order_with (view_of s) hold) ≡ running (view_of s)
  order_runs =
      elim (view_order s hold) as (λ r _. is_run r ≡ running (view_of s))
      [ is_idle e ↦ ap not (sym (eq-eqb s.task 255 e)) | is_run_lem e ↦ ap not (sym (ne_eqb s.task 255 e)) ]

  pub order_held : hold_in (order_with (view_of s) hold) ≡ hold
  order_held = elim (view_order s hold) as (λ r _. hold_in r ≡ hold) [ is_idle e ↦ refl | is_run_lem e ↦ refl ]

  -- it takes the place of the last one
  pub order_stands : (last : Reply) → order_after last (order_with (view_of s) hold) ≡ order_with (view_of s) hold
  order_stands last = elim (view_order s hold) as (λ r _. order_after last r ≡ r) [ is_idle e ↦ refl | is_run_lem e ↦ refl ]

-- 01: "A refused pass changes neither book."
pub refused_neither :
    (speeds : List ℕ) (ts : List Task) (a : DispatcherBook) (b : Book) (p : Pass) (n : ℕ) →
    (booked speeds ts a p (refused n) ≡ a) × (ran (timing speeds ts) b p (refused n) ≡ b)
refused_neither speeds ts a b p n = (refl, refl)

-- a reply that is no refusal had no question answered no
pub not_refused : (n : ℕ) (order : Reply) → is_order (replied_by n order) ≡ true → n ≡ 0
not_refused zero order h = refl
not_refused (suc n) order h = absurd (true≢false (sym h))
