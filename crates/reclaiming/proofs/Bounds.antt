-- An accepted pass takes at least a tick and reaches no further than the next arrival, as the questions that the books put say; so it jumps
-- nothing.
-- Assumes nothing.
use Prim.Native.Nat.{ℕ, zero, suc, ◌+◌, ◌-◌, ◌%◌, ◌≤◌, ◌<◌}
use mathlib.Core.Path.{◌≡◌, refl, sym, subst, subst₂}
use mathlib.Core.Bool.{true, true≢false}
use mathlib.Core.List.{List, [], ◌∷◌}
use native.Mathlib.Decide.{dec_le}
use native.Mathlib.Omega.{arith}
use borrow.Author.Tests.{leb-true}
use lib.ListN.{length, take}
use Rattle.arith.specs.Choice.{pick}
use Rattle.arith.specs.Asking.{first_no}
use Rattle.arith.proofs.Tests.{passed, failed, tested}
use Rattle.arith.proofs.QuestionLaws.{all_yes}
use Rattle.plan.specs.declared.Task.{Task}
use Rattle.plan.specs.Levels.{hyperperiod}
use Rattle.plan.specs.LevelBlocks.{speeds_in}
use Rattle.plan.specs.Blocks.{tasks_in}
use Rattle.plan.proofs.Facts.{FineList}
use Rattle.schedule.specs.PlainSchedule.{Timing, Job, Book, deadline, opened}
use Rattle.schedule.specs.Feasibility.{Fitting}
use Rattle.schedule.proofs.Periods.{deadline_is_next}
use Rattle.reclaiming.specs.Allotments.{timing}
use Rattle.reclaiming.specs.Orders.{next_arrival}
use Rattle.reclaiming.specs.Replies.{Reply, is_order}
use Rattle.reclaiming.specs.Passes.{pass_questions, Pass}
use Rattle.reclaiming.specs.Books.{Answered, DispatcherBook, opened_book, ordered, moved, booked, booked_all, ran, actual_of, plain_of, ran_all}
use Rattle.reclaiming.specs.Ideal.{view_of_books, ideal_first, ideal_order, ideal_reply, ideal_trace}
use Rattle.reclaiming.specs.Calls.{start_reply}
use Rattle.reclaiming.specs.Run.{started_bytes}
use Rattle.reclaiming.specs.Promises.{OpenActual, OnTime, WithinArrival, JumpsNothing, answer_at, PassesWithin, replies}
use Rattle.reclaiming.proofs.Replies.{not_refused}
use Rattle.reclaiming.proofs.Plans.{plan_fits}
use Rattle.reclaiming.proofs.NextArrival.{next_soonest}
use Rattle.reclaiming.proofs.Demand.{table, good, demand_3, ordered_clock}
use Rattle.reclaiming.proofs.Ideal.{trace_take, first_is, all_replies}

module _ (speeds : List ℕ) (ts : List Task) where
  abbrev τ : Timing
  τ = timing speeds ts

  -- questions 11 and 12, of any two books
  within_reply : (a : DispatcherBook) (b : Book) (p : Pass) → is_order (ideal_reply speeds ts a b p) ≡ true → WithinArrival τ a p
  within_reply a b p e =
      let asked : first_no (pass_questions speeds τ (view_of_books ts a b) p.d p.finished) ≡ 0 =
      not_refused (first_no (pass_questions speeds τ (view_of_books ts a b) p.d p.finished)) (ideal_order speeds ts a b p) e in
      let yes = all_yes (pass_questions speeds τ (view_of_books ts a b) p.d p.finished) refl asked in
      record { some = leb-true 1 p.d yes.0; most = leb-true p.d (next_arrival τ a.clock) yes.1.0 }

  -- so of each pass of a list
  within_trace :
      (passes : List Pass) (n : ℕ) (a : DispatcherBook) (b : Book) →
      is_order (answer_at (ideal_trace speeds ts a b passes) n).reply ≡ true →
      WithinArrival τ (booked_all speeds ts a (take n (ideal_trace speeds ts a b passes))) (answer_at (ideal_trace speeds ts a b passes) n).pass
  within_trace [] n a b e = absurd (true≢false (sym e))
  within_trace (p ∷ ps) zero a b e = within_reply a b p e
  within_trace (p ∷ ps) (suc n) a b e =
      let r : Reply = ideal_reply speeds ts a b p in
      within_trace ps n (booked speeds ts a p r) (ran τ b p r) e

  -- a book after one pass more
  booked_more :
      (l : List Answered) (n : ℕ) (a : DispatcherBook) →
      booked_all speeds ts a (take (suc n) l) ≡ booked speeds ts (booked_all speeds ts a (take n l)) (answer_at l n).pass (answer_at l n).reply
  booked_more [] zero a = refl
  booked_more [] (suc n) a = refl
  booked_more (x ∷ l) zero a = refl
  booked_more (x ∷ l) (suc n) a = booked_more l n (booked speeds ts a x.pass x.reply)

  -- a pass within the next arrival, from books that are on time
  module _ (some : 0 < length ts) (fits : Fitting τ (hyperperiod ts)) {a : DispatcherBook} {b : Book} (on_time : OnTime speeds τ a b) (p : Pass) (r : Reply)
      (within : is_order r ≡ true → WithinArrival τ a p) where
    -- reaches no further than any tick to come at which a task has an arrival
    reaches : (i t : ℕ) → i < length ts → a.clock < t → t % τ.period i ≡ 0 → (booked speeds ts a p r).clock ≤ t
    reaches i t below later due =
        elim (tested (is_order r)) as (λ x _. is_order r ≡ x → (pick x (ordered (moved speeds ts a p) r) a).clock ≤ t) [
          | passed ↦ λ e. subst (λ (c : ℕ). c ≤ t) (sym (ordered_clock (moved speeds ts a p) r)) (in_time e)
          | failed ↦ λ e. omega arith
        ]
        refl
      where
        in_time : is_order r ≡ true → a.clock + p.d ≤ t
        in_time e =
            let same : a.clock + (t - a.clock) ≡ t = omega arith in
            omega (
              arith,
              (within e).most,
              next_soonest τ some fits.periods a.clock i (t - a.clock) below (omega arith) (subst (λ (x : ℕ). x % τ.period i ≡ 0) (sym same) due),
            )

    -- an open job's deadline is to come, and its task has its next arrival there
    by_deadline : (j : Job) → OpenActual τ a j → (booked speeds ts a p r).clock ≤ deadline τ j
    by_deadline j o =
        reaches j.task (deadline τ j) o.arrived.task
        (elim (dec_le (suc a.clock) (deadline τ j)) [ yes h ↦ h | no h ↦ absurd (o.unclosed (on_time.actual_closed j o.arrived (omega arith))) ])
        (deadline_is_next τ a.clock j (fits.periods j.task o.arrived.task) o.arrived).due

    jumps_nothing : JumpsNothing τ a (booked speeds ts a p r)
    jumps_nothing = record {
      arrivals = λ k q later. reaches k.task k.arrival q.task later q.multiple;
      deadlines = by_deadline;
    }

pub passes_within : PassesWithin
passes_within levels block pairs buffer passes n ok = record { accepted = within; jumps = jumps }
  where
    speeds : List ℕ
    speeds = speeds_in levels

    ts : List Task
    ts = tasks_in block

    first : Reply
    first = start_reply levels block pairs (length buffer)

    all : List Answered
    all = replies levels block pairs buffer passes

    before : DispatcherBook
    before = actual_of speeds ts first (take n all)

    within : is_order (answer_at all n).reply ≡ true → WithinArrival (timing speeds ts) before (answer_at all n).pass
    within =
        subst₂
        (λ (r : Reply) (l : List Answered).
        is_order (answer_at l n).reply ≡ true → WithinArrival (timing speeds ts) (booked_all speeds ts (opened_book ts r) (take n l)) (answer_at l n).pass)
        (sym (first_is levels block pairs buffer ok)) (sym (all_replies levels block pairs buffer ok passes))
        (within_trace speeds ts passes n (opened_book ts (ideal_first speeds ts)) (opened (timing speeds ts)))

    on_time : OnTime speeds (timing speeds ts) before (plain_of speeds ts (take n all))
    on_time =
        subst
        (λ (l : List Answered).
        OnTime speeds (timing speeds ts) (booked_all speeds ts (opened_book ts first) l) (ran_all (timing speeds ts) (opened (timing speeds ts)) l))
        (sym (trace_take n (started_bytes levels block pairs buffer) passes)) (demand_3 levels block pairs buffer (take n passes) ok)

    plan : FineList speeds (length ts) ts
    plan = good levels block pairs buffer ok

    jumps : JumpsNothing (timing speeds ts) before (actual_of speeds ts first (take (suc n) all))
    jumps =
        subst (JumpsNothing (timing speeds ts) before) (sym (booked_more speeds ts all n (opened_book ts first)))
        (jumps_nothing speeds ts plan.count_low (plan_fits speeds ts plan (table levels block pairs buffer ok).rising) on_time (answer_at all n).pass
        (answer_at all n).reply within)
