-- How often a run finishes a valve job, from what playing it promises: demand 3 after each pass, and that no pass jumps a deadline. Of the
-- dispatcher nothing else is used here, and of its books only their definitions.
-- Assumes nothing.
use Prim.Native.Nat.{ℕ, zero, suc, ◌+◌, ◌*◌, ◌≤◌, ◌<◌}
use mathlib.Core.Path.{◌≡◌, refl, sym, ap, subst, ◌∙◌}
use mathlib.Core.Bool.{true}
use mathlib.Core.List.{List, [], ◌∷◌}
use mathlib.Core.Logic.{◌⊎◌, inl, inr, ⊎_elim}
use native.Mathlib.Nat.{add-mod_right, div-mul-le_self}
use native.Mathlib.Decide.{dec_le, ℕ_discrete}
use native.Mathlib.Omega.{arith}
use lib.ListN.{take}
use Rattle.arith.specs.Choice.{pick}
use Rattle.arith.proofs.Tests.{passed, failed, tested}
use Rattle.plan.specs.declared.Task.{Task}
use Rattle.plan.specs.LevelBlocks.{speeds_in}
use Rattle.plan.specs.Blocks.{tasks_in}
use Rattle.schedule.specs.PlainSchedule.{Timing, Job, deadline, latest}
use Rattle.schedule.specs.Feasibility.{In}
use Rattle.schedule.specs.Served.{Arrived}
use Rattle.reclaiming.specs.declared.Order.TheVariants.{Run, Idle}
use Rattle.reclaiming.specs.Allotments.{timing}
use Rattle.reclaiming.specs.Replies.{Reply, is_order}
use Rattle.reclaiming.specs.Passes.{Pass}
use Rattle.reclaiming.specs.Books.{Answered, DispatcherBook, ordered, unopened_book, opened_book, closed_after, moved, booked, booked_all, actual_of, plain_of}
use Rattle.reclaiming.specs.Promises.{OpenActual, OnTime, PassWithin, answer_at}
use Rattle.reclaiming.specs.Play.{reply_from, answers_from, PlayedOnTime, PlayedWithin}
use Rattle.knee.specs.Refresh.{PlayedRefreshApart, PlayedRefreshGoesOn, PlayedRefreshAge}
use Rattle.knee.specs.Refresh.{valve_task, valve_job, Finishes, FinishedWithin, finish, RefreshApart, RefreshGoesOn, RefreshAge}
use Rattle.std.specs.declared.result.Result.TheVariants.{Ok, Err}

-- whether a job is in a list
same_job_lem : (j k : Job) → Dec (j ≡ k)
same_job_lem j k = both_same (ℕ_discrete j.task k.task) (ℕ_discrete j.arrival k.arrival)
  where
    both_same : Dec (j.task ≡ k.task) → Dec (j.arrival ≡ k.arrival) → Dec (j ≡ k)
    both_same (yes p) (yes q) = yes (λ i. record { task = p i; arrival = q i })
    both_same (yes p) (no q) = no (λ e. q (ap (λ (x : Job). x.arrival) e))
    both_same (no p) q = no (λ e. p (ap (λ (x : Job). x.task) e))

member : (j : Job) (l : List Job) → Dec (In j l)
member j [] = no (λ x. x)
member j (k ∷ l) = first_or_later (same_job_lem j k) (member j l)
  where
    first_or_later : Dec (j ≡ k) → Dec (In j l) → Dec ((j ≡ k) ⊎ In j l)
    first_or_later (yes e) m = yes (inl e)
    first_or_later (no e) (yes m) = yes (inr m)
    first_or_later (no e) (no m) = no (⊎_elim e m)

-- an order moves no clock and closes nothing
ordered_clock : (b : DispatcherBook) (r : Reply) → (ordered b r).clock ≡ b.clock
ordered_clock b (Ok (Run task level hold)) = refl
ordered_clock b (Ok (Idle hold)) = refl
ordered_clock b (Err e) = refl

ordered_closed : (b : DispatcherBook) (r : Reply) → (ordered b r).closed ≡ b.closed
ordered_closed b (Ok (Run task level hold)) = refl
ordered_closed b (Ok (Idle hold)) = refl
ordered_closed b (Err e) = refl

module _ (speeds : List ℕ) (ts : List Task) where
  abbrev τ : Timing
  τ = timing speeds ts

  -- the book after one pass more
  booked_next :
      (l : List Answered) (n : ℕ) (b : DispatcherBook) →
      booked_all speeds ts b (take (suc n) l) ≡ booked speeds ts (booked_all speeds ts b (take n l)) (answer_at l n).pass (answer_at l n).reply
  booked_next [] zero b = refl
  booked_next [] (suc n) b = refl
  booked_next (x ∷ l) zero b = refl
  booked_next (x ∷ l) (suc n) b = booked_next l n (booked speeds ts b x.pass x.reply)

  -- what a pass closes is the running task's latest job
  module _ (b : DispatcherBook) (p : Pass) (j : Job) where
    abbrev Closing : Type 0
    Closing = In j b.closed ⊎ (j ≡ latest τ b.clock b.task)

    closes_accepted : In j (closed_after τ b p) → Closing
    closes_accepted =
        elim (tested p.finished) as (λ x _. In j (pick x (latest τ b.clock b.task ∷ b.closed) b.closed) → Closing) [
          | passed ↦ ⊎_elim (λ e. inr e) (λ m. inl m)
          | failed ↦ λ m. inl m
        ]

    closes : (r : Reply) → In j (booked speeds ts b p r).closed → Closing
    closes r =
        elim (tested (is_order r)) as (λ x _. In j (pick x (ordered (moved speeds ts b p) r) b).closed → Closing) [
          | passed ↦ λ m. closes_accepted (subst (In j) (ordered_closed (moved speeds ts b p) r) m)
          | failed ↦ λ m. inl m
        ]

    -- and it does so after its arrival, since an accepted pass takes a tick
    closes_later :
        (r : Reply) → (is_order r ≡ true → 1 ≤ p.d) → OpenActual τ b j → In j (booked speeds ts b p r).closed → j.arrival < (booked speeds ts b p r).clock
    closes_later r some o =
        elim (tested (is_order r))
        as (λ x _. is_order r ≡ x → In j (pick x (ordered (moved speeds ts b p) r) b).closed → j.arrival < (pick x (ordered (moved speeds ts b p) r) b).clock) [
          | passed ↦ λ e m. omega (arith, some e, o.arrived.arrival, ordered_clock (moved speeds ts b p) r)
          | failed ↦ λ e m. absurd (o.unclosed m)
        ]
        refl

  -- a run, by its answers, of which playing promises what it does
  module _ (first : Reply) (answers : List Answered) where
    abbrev book : ℕ → DispatcherBook
    book n = actual_of speeds ts first (take n answers)

    abbrev after : ℕ → DispatcherBook
    after n = booked speeds ts (book n) (answer_at answers n).pass (answer_at answers n).reply

    next : (n : ℕ) → book (suc n) ≡ after n
    next n = booked_next answers n (opened_book ts first)

    module _
        (on_time : (n : ℕ) → OnTime speeds τ (book n) (plain_of speeds ts (take n answers)))
        (within : (n : ℕ) → PassWithin speeds ts first answers n) where
      -- a job is finished after its arrival
      later : (n : ℕ) (j : Job) → Finishes τ book n j → j.arrival < finish τ book n
      later n j f =
          subst (λ (b : DispatcherBook). j.arrival < b.clock) (sym (next n))
          (closes_later (book n) (answer_at answers n).pass j (answer_at answers n).reply (λ e. ((within n).accepted e).some) f.was_open
          (subst (λ (b : DispatcherBook). In j b.closed) (next n) f.is_closed))

      -- and by its deadline
      in_time : (n : ℕ) (j : Job) → Finishes τ book n j → finish τ book n ≤ deadline τ j
      in_time n j f = (within n).jumps.deadlines j f.was_open

      -- what is closed, some pass has finished: nothing is closed at the start, and a pass closes no job that has not arrived
      finished : (n clock : ℕ) (j : Job) → Arrived τ clock j → In j (book n).closed → FinishedWithin τ book n j
      finished zero clock j q m = absurd (subst (In j) (ordered_closed (unopened_book ts) first) m)
      finished (suc n) clock j q m =
          elim (member j (book n).closed) [
            | yes before ↦ let found = finished n clock j q before in (found.0, (omega (arith, found.1.0), found.1.1))
            | no unclosed ↦ (n, (omega arith, record { was_open = record { arrived = arrived unclosed; unclosed = unclosed }; is_closed = m }))
          ]
        where
          arrived : (In j (book n).closed → ⊥) → Arrived τ (book n).clock j
          arrived unclosed = ⊎_elim (λ before. absurd (unclosed before)) (λ e. record {
            task = q.task;
            arrival = subst (λ (k : Job). k.arrival ≤ (book n).clock) (sym e) (div-mul-le_self (book n).clock (τ.period (book n).task));
            multiple = q.multiple;
          }) (closes (book n) (answer_at answers n).pass j (answer_at answers n).reply (subst (λ (b : DispatcherBook). In j b.closed) (next n) m))

      -- the valve job of an arrival, at any clock that has come to it, and the next one
      abbrev P : ℕ
      P = τ.period valve_task

      at_clock : {a clock : ℕ} → Arrived τ clock (valve_job a) → (t : ℕ) → a ≤ t → Arrived τ t (valve_job a)
      at_clock q t h = record { task = q.task; arrival = h; multiple = q.multiple }

      next_job : {a clock : ℕ} → Arrived τ clock (valve_job a) → (t : ℕ) → a + P ≤ t → Arrived τ t (valve_job (a + P))
      next_job {a} q t h = record { task = q.task; arrival = h; multiple = add-mod_right a P ∙ q.multiple }

      pub refresh_apart : RefreshApart τ book
      refresh_apart a m n f g =
          let f-later = later m (valve_job a) f in
          let f-in-time = in_time m (valve_job a) f in
          let g-later = later n (valve_job (a + P)) g in
          let g-in-time = in_time n (valve_job (a + P)) g in
          (omega arith, omega arith)

      pub refresh_goes_on : RefreshGoesOn τ book
      refresh_goes_on a n q h =
          let clock : ℕ = (book n).clock in (
            finished n a (valve_job a) q ((on_time n).actual_closed (valve_job a) (at_clock q clock (omega arith)) (omega arith)),
            finished n (a + P) (valve_job (a + P)) (next_job q (a + P) (omega arith))
                ((on_time n).actual_closed (valve_job (a + P)) (next_job q clock (omega arith)) (omega arith)),
          )

      pub refresh_age : RefreshAge τ book
      refresh_age a m n f unclosed =
          let f-later = later m (valve_job a) f in
          let f-in-time = in_time m (valve_job a) f in
          let q = f.was_open.arrived in
          elim (dec_le (a + 2 * P) (book n).clock) [
            | yes h ↦ absurd (unclosed ((on_time n).actual_closed (valve_job (a + P)) (next_job q (book n).clock (omega arith)) (omega arith)))
            | no h ↦ omega arith
          ]

-- of a played run: what playing promises of the number that it returned and of those that it left gives all three
module _ (levels block : List ℕ) (first : ℕ) (passes : List Pass) (replies : List ℕ) where
  pub record Refreshed : Type 0 where
    pub apart : PlayedRefreshApart levels block first passes replies
    pub goes_on : PlayedRefreshGoesOn levels block first passes replies
    pub age : PlayedRefreshAge levels block first passes replies

  pub refreshed : PlayedOnTime levels block first passes replies → PlayedWithin levels block first passes replies → Refreshed
  refreshed on_time within = record {
    apart = λ ok. refresh_apart speeds ts (reply_from first) answers (on_time ok) (within ok);
    goes_on = λ ok. refresh_goes_on speeds ts (reply_from first) answers (on_time ok) (within ok);
    age = λ ok. refresh_age speeds ts (reply_from first) answers (on_time ok) (within ok);
  }
    where
      speeds : List ℕ
      speeds = speeds_in levels

      ts : List Task
      ts = tasks_in block

      answers : List Answered
      answers = answers_from passes replies
