-- Every reply of a run is the one that the two books alone give: what a state knows is what they know.
-- Assumes nothing.
use Prim.Native.Nat.{ℕ, zero, suc, ◌-◌, ◌≤◌}
use mathlib.Core.Path.{◌≡◌, refl, sym, ap, ap₂, subst, ◌∙◌}
use mathlib.Core.Bool.{Bool, true, false}
use mathlib.Core.List.{List, [], ◌∷◌}
use native.Mathlib.Decide.{dec_le}
use native.Mathlib.Omega.{arith}
use lib.Dec.{eqb}
use lib.ListN.{length, get_or, get_or-eq_default, take}
use Rattle.arith.specs.Choice.{pick}
use Rattle.arith.specs.Asking.{first_no}
use Rattle.arith.specs.Ranges.{list_to}
use Rattle.arith.proofs.Tests.{passed, failed, tested}
use Rattle.arith.proofs.RangeLaws.{list_to_is}
use Rattle.plan.specs.declared.Task.{Task}
use Rattle.plan.specs.declared.Rest.{Rest}
use Rattle.plan.specs.Times.{whole, no_rest, worn}
use Rattle.plan.specs.Levels.{speed_of}
use Rattle.plan.specs.LevelBlocks.{speeds_in}
use Rattle.plan.specs.Blocks.{no_task, tasks_in}
use Rattle.plan.proofs.TimeLaws.{worn_within}
use Rattle.plan.proofs.LevelBlockLaws.{FineTable}
use Rattle.plan.proofs.Facts.{FineList}
use Rattle.schedule.specs.PlainSchedule.{Timing, Pending, Book, queue_of, left_in, opened}
use Rattle.schedule.specs.Feasibility.{In}
use Rattle.schedule.proofs.QueueLaws.{Stands, queue_of_in, left_none, left_queue_of}
use Rattle.reclaiming.specs.declared.Order.TheVariants.{Run, Idle}
use Rattle.reclaiming.specs.declared.Entry.{Entry}
use Rattle.reclaiming.specs.Allotments.{timing}
use Rattle.reclaiming.specs.Orders.{View, hold_of, with_order, order_for, order_with, new_order, open_jobs}
use Rattle.reclaiming.specs.Replies.{Reply, is_order, replied_by}
use Rattle.reclaiming.specs.Passes.{arrives_at, chooses_anew, pass_questions, Pass}
use Rattle.reclaiming.specs.Books.{Answered, DispatcherBook, unopened_book, opened_book, ordered, moved, booked, booked_all, ran}
use Rattle.reclaiming.specs.Ideal.{view_of_books, ticked_view, ideal_first, ideal_order, ideal_reply, ideal_trace, ideal_replies}
use Rattle.reclaiming.specs.StateBlock.{State, no_entry, rest_in, rest_of, remaining_of, queued_in, task_of, entry_with, encode, plan_in}
use Rattle.reclaiming.specs.States.{view_of, chosen_state, new_entry, state_with, moved_state, passed_state, passed_hold, take_order}
use Rattle.reclaiming.specs.Calls.{pass_reply, start_reply, pass_bytes}
use Rattle.reclaiming.specs.Run.{trace, started_bytes}
use Rattle.reclaiming.specs.Promises.{Started, state_of_books, IdealRun, SameLeft, order_after, replies, state_after, actual_book, plain_book, last_order}
use Rattle.reclaiming.proofs.Fine.{fine_floor, Accepted}
use Rattle.reclaiming.proofs.Soundness.{plan_in_at, fine_length, pass_accepted}
use Rattle.reclaiming.proofs.Runs.{Tied, Kept, idle_level, order_recorded, order_ran, tied_next, kept_pass, reply_is}
use Rattle.reclaiming.proofs.Demand.{table, good, tied_start, kept_start, is_state, after_run}
use Rattle.std.specs.declared.result.Result.TheVariants.{Ok, Err}

-- an order leaves what is left
pub ordered_left : (b : DispatcherBook) (r : Reply) → (ordered b r).left ≡ b.left
ordered_left b (Ok (Run task level hold)) = refl
ordered_left b (Ok (Idle hold)) = refl
ordered_left b (Err e) = refl

-- of nothing the ticks leave nothing
worn_none : (speed d : ℕ) → worn speed d no_rest ≡ no_rest
worn_none speed d =
    let w = worn_within speed d no_rest in
    let f : (worn speed d no_rest).fixed ≡ 0 = omega (arith, w.fixed) in
    let g : (worn speed d no_rest).work ≡ 0 = omega (arith, w.work) in
    λ k. record { fixed = f k; work = g k }

-- where nothing is left either way, nothing is left
either : (b : Bool) {x y : Rest} → x ≡ no_rest → y ≡ no_rest → pick b x y ≡ no_rest
either true p q = p
either false p q = q

-- past the plan's count nothing is ever left in the dispatcher's book
module _ (speeds : List ℕ) (ts : List Task) where
  abbrev pub NonePast : DispatcherBook → Type 0
  NonePast a = (i : ℕ) → length ts ≤ i → a.left i ≡ no_rest

  no_task_lem : (i : ℕ) → length ts ≤ i → whole (get_or ts i no_task) ≡ no_rest
  no_task_lem i h = ap whole (get_or-eq_default ts no_task h)

  past_ordered : (b : DispatcherBook) (r : Reply) → NonePast b → NonePast (ordered b r)
  past_ordered b r past i h = ap (λ (f : ℕ → Rest). f i) (ordered_left b r) ∙ past i h

  past_moved : (a : DispatcherBook) (p : Pass) → NonePast a → NonePast (moved speeds ts a p)
  past_moved a p past i h =
      either (arrives_at (timing speeds ts) (moved speeds ts a p).clock i) (no_task_lem i h)
      (either (eqb i a.task) (either p.finished refl (ap (worn speed p.d) (past i h) ∙ worn_none speed p.d)) (past i h))
    where
      speed : ℕ
      speed = speed_of speeds a.level

  pub past_booked : (a : DispatcherBook) (p : Pass) (r : Reply) → NonePast a → NonePast (booked speeds ts a p r)
  past_booked a p r past =
      elim (tested (is_order r)) as (λ b _. NonePast (pick b (ordered (moved speeds ts a p) r) a))
      [ passed ↦ past_ordered (moved speeds ts a p) r (past_moved a p past) | failed ↦ past ]

  past_all : (answers : List Answered) (a : DispatcherBook) → NonePast a → NonePast (booked_all speeds ts a answers)
  past_all [] a past = past
  past_all (x ∷ rest) a past = past_all rest (booked speeds ts a x.pass x.reply) (past_booked a x.pass x.reply past)

  past_start : (r : Reply) → NonePast (opened_book ts r)
  past_start r = past_ordered (unopened_book ts) r no_task_lem

  -- what a tied state knows is what the books know
  pub view_is : {s : State} {a : DispatcherBook} {b : Book} {last : Reply} → Tied speeds ts s a b last → NonePast a → view_of s ≡ view_of_books ts a b
  view_is {s} {a} {b} t past =
      λ k. record {
        clock = sym t.clock k;
        task = sym t.task k;
        level = sym t.level k;
        floor = λ i. fine_floor t.fine.entries i k;
        rest = λ i. rest i k;
        remaining = λ i. left i k;
      }
    where
      missing : (i : ℕ) → length ts ≤ i → get_or s.entries i no_entry ≡ no_entry
      missing i h = get_or-eq_default s.entries no_entry (omega (arith, fine_length t.fine.entries))

      rest : (i : ℕ) → rest_of s i ≡ a.left i
      rest i = elim (dec_le (suc i) (length ts)) [ yes h ↦ sym (t.left i h) | no h ↦ ap rest_in (missing i (omega arith)) ∙ sym (past i (omega arith)) ]

      standing : List Pending
      standing = queue_of (timing speeds ts) s.clock (remaining_of s) (length ts)

      none : (i : ℕ) → length ts ≤ i → (e : Pending) → In e standing → e.job.task ≡ i → ⊥
      none i h e m x =
          let w : Stands (timing speeds ts) s.clock (remaining_of s) (length ts) e = queue_of_in (timing speeds ts) s.clock (remaining_of s) (length ts) e m in
          omega (arith, w.below, ap (λ (p : Pending). p.job.task) w.is)

      stands : (i : ℕ) → remaining_of s i ≡ left_in i standing
      stands i =
          elim (dec_le (suc i) (length ts)) [
            | yes h ↦ sym (left_queue_of (timing speeds ts) s.clock (remaining_of s) (length ts) i h)
            | no h ↦ ap (λ (e : Entry). e.remaining) (missing i (omega arith)) ∙ sym (left_none i standing (none i (omega arith)))
          ]

      left : (i : ℕ) → remaining_of s i ≡ left_in i b.pending
      left i = stands i ∙ sym (ap (λ (x : Book). left_in i x.pending) (t.plainly ∙ t.queue))

  -- and so it is the state that they make, where its speeds are those that were loaded
  state_is :
      {s : State} {a : DispatcherBook} {b : Book} {last : Reply} →
      Tied speeds ts s a b last →
      NonePast a →
      s.speeds ≡ speeds →
      s ≡ state_of_books speeds ts a b
  state_is {s} {a} {b} t past own =
      λ k. record {
        clock = sym t.clock k;
        task = sym t.task k;
        level = sym t.level k;
        entries = entries k;
        speeds = own k;
        total = (t.fine.entries.total ∙ ap queued_in entries) k;
      }
    where
      entry : ℕ → Entry
      entry i = entry_with (get_or ts i no_task) (a.left i) (left_in i b.pending)

      task : (i : ℕ) → task_of (get_or s.entries i no_entry) ≡ get_or ts i no_task
      task i = sym (plan_in_at s i) ∙ ap (λ (l : List Task). get_or l i no_task) t.fine.entries.plan

      entries : s.entries ≡ list_to (length ts) entry
      entries =
          list_to_is (length ts) entry s.entries no_entry (fine_length t.fine.entries)
          (λ i h k. entry_with (task i k) ((view_is t past k).rest i) ((view_is t past k).remaining i))

-- choosing an order in a state is choosing it in its view
chosen_view : (speeds : List ℕ) (τ : Timing) (s : State) (q : List Pending) → view_of (take_order s (order_for speeds τ (view_of s) q)) ≡ order_for speeds τ (view_of s) q
chosen_view speeds τ s [] = refl
chosen_view speeds τ s (e ∷ q) = refl

new_order_lem : (speeds : List ℕ) (τ : Timing) (s : State) → order_with (view_of (chosen_state speeds τ s)) (hold_of speeds τ (view_of (chosen_state speeds τ s))) ≡ new_order speeds τ (view_of s)
new_order_lem speeds τ s = ap (λ (v : View). order_with v (hold_of speeds τ v)) (chosen_view speeds τ s (open_jobs τ (view_of s)))

-- a plan that was accepted, over a table of speeds
module _ (speeds : List ℕ) (table : FineTable speeds) (ts : List Task) (good : FineList speeds (length ts) ts) where
  abbrev τ : Timing
  τ = timing speeds ts

  -- a state that is tied to the books, and a pass
  module _ {s : State} {a : DispatcherBook} {b : Book} {last : Reply} (t : Tied speeds ts s a b last) (past : NonePast speeds ts a) (p : Pass) where
    abbrev d : ℕ
    d = p.d

    abbrev finished : Bool
    finished = p.finished

    abbrev ticks : State
    ticks = moved_state speeds τ s d finished

    -- the order that is answered if it is accepted
    abbrev order : Reply
    order = order_with (view_of (passed_state speeds τ s d finished)) (passed_hold speeds τ s d finished)

    seen : view_of s ≡ view_of_books ts a b
    seen = view_is speeds ts t past

    -- the questions are the books'
    pub asked : first_no (pass_questions speeds (timing speeds (plan_in s)) (view_of s) d finished) ≡ first_no (pass_questions speeds τ (view_of_books ts a b) d finished)
    asked = ap₂ (λ (l : List Task) (v : View). first_no (pass_questions speeds (timing speeds l) v d finished)) t.fine.entries.plan seen

    -- accepted, its ticks make of the state what they make of the books
    pub ticked_is : Accepted speeds τ s d finished → view_of ticks ≡ ticked_view speeds ts a b p
    ticked_is ok =
        elim (tested (chooses_anew τ (view_of s) d finished))
        as (λ x _. view_of ticks ≡ with_order (view_of (pick x (chosen_state speeds τ ticks) ticks)) s.task s.level)
        [ passed ↦ refl | failed ↦ refl ]
        ∙ ap (λ (v : View). with_order v s.task s.level) (view_is speeds ts after_it (past_booked speeds ts a p order past))
        ∙ (λ k. with_order (view_of_books ts (recorded k) (order_ran speeds ts p next hold τ b k)) (sym t.task k) (sym t.level k))
      where
        next : State
        next = passed_state speeds τ s d finished

        hold : ℕ
        hold = passed_hold speeds τ s d finished

        after_it : Tied speeds ts next (booked speeds ts a p order) (ran τ b p order) (order_after last order)
        after_it = tied_next speeds table ts good s t.fine d finished ok t.queue t

        recorded :
            booked speeds ts a p order
            ≡ record {
              clock = (moved speeds ts a p).clock;
              closed = (moved speeds ts a p).closed;
              task = next.task;
              level = next.level;
              left = (moved speeds ts a p).left;
            }
        recorded = order_recorded speeds ts p next hold (idle_level good after_it.fine) a

    -- and so the order is that of the books
    order_is : Accepted speeds τ s d finished → order ≡ ideal_order speeds ts a b p
    order_is ok =
        elim (tested anew)
        as (λ x _.
        order_with (view_of (pick x (chosen_state speeds τ ticks) ticks)) (pick x (hold_of speeds τ (view_of (pick x (chosen_state speeds τ ticks) ticks))) (hold_of speeds τ (view_of s) - d))
        ≡ pick x (new_order speeds τ (view_of ticks)) (order_with (view_of ticks) (hold_of speeds τ (view_of s) - d)))
        [ passed ↦ new_order_lem speeds τ ticks | failed ↦ refl ]
        ∙ (λ k. pick (chooses_anew τ (seen k) d finished) (new_order speeds τ (ticked_is ok k)) (order_with (ticked_is ok k) (hold_of speeds τ (seen k) - d)))
      where
        anew : Bool
        anew = chooses_anew τ (view_of s) d finished

    replied : replied_by (first_no (pass_questions speeds (timing speeds (plan_in s)) (view_of s) d finished)) order ≡ ideal_reply speeds ts a b p
    replied = by_number (first_no (pass_questions speeds (timing speeds (plan_in s)) (view_of s) d finished)) refl ∙ ap (λ (n : ℕ). replied_by n (ideal_order speeds ts a b p)) asked
      where
        by_number : (n : ℕ) → first_no (pass_questions speeds (timing speeds (plan_in s)) (view_of s) d finished) ≡ n → replied_by n order ≡ replied_by n (ideal_order speeds ts a b p)
        by_number zero e =
            order_is
            (subst (λ (l : List Task). Accepted speeds (timing speeds l) s d finished) t.fine.entries.plan (pass_accepted speeds s d finished e).0)
        by_number (suc n) e = refl

  -- of bytes that hold such a state, the reply to a pass is that of the books
  pub same_reply :
      {bytes : List ℕ} {a : DispatcherBook} {b : Book} {last : Reply} →
      Kept speeds ts bytes a b last →
      NonePast speeds ts a →
      (p : Pass) →
      pass_reply bytes p.d p.finished ≡ ideal_reply speeds ts a b p
  same_reply k past p =
      reply_is speeds table ts good k.stored k.in_time k.own k.tied.fine p.d p.finished ∙ replied k.tied past p

  -- and so is every reply of a run
  follow :
      (passes : List Pass) {bytes : List ℕ} {a : DispatcherBook} {b : Book} {last : Reply} →
      Kept speeds ts bytes a b last →
      NonePast speeds ts a →
      trace bytes passes ≡ ideal_trace speeds ts a b passes
  follow [] k past = refl
  follow (p ∷ ps) {bytes} {a} {b} {last} k past =
      ap₂ (λ (r : Reply) (l : List Answered). record { pass = p; reply = r } ∷ l) (same_reply k past p)
      (follow ps (kept_pass speeds table ts good p bytes a b last k) (past_booked speeds ts a p (pass_reply bytes p.d p.finished) past)
      ∙ ap (λ (r : Reply). ideal_trace speeds ts (booked speeds ts a p r) (ran τ b p r) ps) (same_reply k past p))

-- a run of the first n passes
pub trace_take : (n : ℕ) (bytes : List ℕ) (passes : List Pass) → take n (trace bytes passes) ≡ trace bytes (take n passes)
trace_take zero bytes passes = refl
trace_take (suc n) bytes [] = refl
trace_take (suc n) bytes (p ∷ ps) =
    ap (λ (l : List Answered). record { pass = p; reply = pass_reply bytes p.d p.finished } ∷ l)
    (trace_take n (pass_bytes bytes p.d p.finished) ps)

-- an order changes nothing but the order
unordered :
    (ts : List Task) (b : DispatcherBook) (c : Book) (r : Reply) → with_order (view_of_books ts (ordered b r) c) 255 0 ≡ with_order (view_of_books ts b c) 255 0
unordered ts b c (Ok (Run task level hold)) = refl
unordered ts b c (Ok (Idle hold)) = refl
unordered ts b c (Err e) = refl

module _ (levels block pairs buffer : List ℕ) (ok : Started levels block pairs buffer) where
  abbrev speeds : List ℕ
  speeds = speeds_in levels

  abbrev ts : List Task
  ts = tasks_in block

  abbrev first : Reply
  first = start_reply levels block pairs (length buffer)

  pub past_first : NonePast speeds ts (opened_book ts first)
  past_first = past_start speeds ts first

  -- the first order is chosen in the whole jobs of the books
  pub first_is : first ≡ ideal_first speeds ts
  first_is =
      (tied_start levels block pairs buffer ok).order_is
      ∙ new_order_lem speeds (timing speeds ts) (state_with 0 255 0 (list_to (length ts) (new_entry (timing speeds ts) ts)) speeds)
      ∙ ap (new_order speeds (timing speeds ts))
      (ap (λ (v : View). with_order v 255 0) (view_is speeds ts (tied_start levels block pairs buffer ok) past_first) ∙ unordered ts (unopened_book ts) (opened (timing speeds ts)) first)

  -- every reply is that of the books
  pub all_replies : (passes : List Pass) → replies levels block pairs buffer passes ≡ ideal_replies speeds ts passes
  all_replies passes =
      follow speeds (table levels block pairs buffer ok) ts (good levels block pairs buffer ok) passes (kept_start levels block pairs buffer ok) past_first
      ∙ ap (λ (r : Reply). ideal_trace speeds ts (opened_book ts r) (opened (timing speeds ts)) passes) first_is

pub ideal_run : IdealRun
ideal_run levels block pairs buffer passes ok = record {
  first = first_is levels block pairs buffer ok;
  each = λ n. trace_take n (started_bytes levels block pairs buffer) passes ∙ all_replies levels block pairs buffer ok (take n passes);
  view =
      ap view_of (is_state speeds (table levels block pairs buffer ok) ts (good levels block pairs buffer ok) end) ∙ view_is speeds ts end.tied past_end;
  stored = end.stored ∙ ap encode (state_is speeds ts end.tied past_end end.own);
}
  where
    speeds : List ℕ
    speeds = speeds_in levels

    ts : List Task
    ts = tasks_in block

    end :
        Kept speeds ts (state_after levels block pairs buffer passes) (actual_book levels block pairs buffer passes)
        (plain_book levels block pairs buffer passes)
        (last_order (start_reply levels block pairs (length buffer)) (replies levels block pairs buffer passes))
    end = after_run levels block pairs buffer passes ok

    past_end : NonePast speeds ts (actual_book levels block pairs buffer passes)
    past_end =
        past_all speeds ts (replies levels block pairs buffer passes) (opened_book ts (start_reply levels block pairs (length buffer)))
        (past_first levels block pairs buffer ok)

-- so what is left of a job by the book is what the state holds
pub same_left : SameLeft
same_left levels block pairs buffer passes ok i h = sym (ap (λ (v : View). v.rest i) (ideal_run levels block pairs buffer passes ok).view)
