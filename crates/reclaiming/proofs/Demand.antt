-- The promises of the dispatcher, for any accepted level block: demand 3 in one piece, the queue shown, soundness kept, and no dead end.
-- Assumes nothing.
use Prim.Native.Nat.{ℕ, zero, suc, ◌+◌, ◌-◌, ◌%◌, ◌≤◌, ◌<◌}
use mathlib.Core.Path.{◌≡◌, refl, sym, subst, subst₂, ap, ap₂, ◌∙◌}
use mathlib.Core.Bool.{Bool, true, true≢false, not}
use mathlib.Core.List.{List, [], ◌∷◌}
use mathlib.Core.Logic.{◌⊎◌, inl, inr, ⊎_elim, ◌≢◌}
use native.Mathlib.Decide.{dec_le, ℕ_discrete}
use native.Mathlib.Omega.{arith}
use borrow.Author.Tests.{eq-eqb}
use lib.Dec.{eqb}
use lib.ListN.{length, get_or, take, drop, get_or-eq_default}
use lib.Seq.{take_at, drop_at}
use Rattle.arith.specs.Choice.{pick, both, every}
use Rattle.arith.specs.Asking.{first_no}
use Rattle.arith.specs.Ranges.{list_to}
use Rattle.arith.proofs.Tests.{passed, failed, tested}
use Rattle.arith.proofs.QuestionLaws.{ask_yes}
use Rattle.arith.proofs.RangeLaws.{get_d_list_to}
use Rattle.plan.specs.declared.Task.{Task}
use Rattle.plan.specs.Times.{time_of}
use Rattle.plan.specs.Levels.{Rising, speed_of, hyperperiod, nominal}
use Rattle.plan.specs.LevelBlocks.{speeds_in}
use Rattle.plan.specs.Blocks.{no_task, tasks_in}
use Rattle.plan.specs.Pairs.{Pair, pairs_in, period_of, good_pair}
use Rattle.plan.specs.Answers.{room_number, written_by, stored_by}
use Rattle.plan.proofs.TimeLaws.{time_some}
use Rattle.plan.proofs.LevelBlockLaws.{FineTable, few_levels}
use Rattle.plan.proofs.Facts.{FineList, range_at}
use Rattle.plan.proofs.PairLaws.{GoodPair, good_pair_lem, each_good}
use Rattle.schedule.specs.PlainSchedule.{Timing, Job, Pending, Book, latest, deadline, more_urgent, canonical_at, queue_of, opened}
use Rattle.schedule.specs.Feasibility.{In, Fitting}
use Rattle.schedule.specs.Served.{Arrived, OpenPlain, AllotmentsGiven}
use Rattle.schedule.proofs.Members.{all_in, every_in}
use Rattle.schedule.proofs.Urgency.{MoreUrgent, asymmetric, urgent_true}
use Rattle.schedule.proofs.Together.{Before, arrives_too, urgent_before}
use Rattle.schedule.proofs.Invariant.{canonical_good}
use Rattle.schedule.proofs.Invariant as invariant
use Rattle.schedule.proofs.Feasible.{never_late}
use Rattle.schedule.proofs.Giving.{allotments_given}
use Rattle.schedule.proofs.QueueLaws.{queue_of_cong}
use Rattle.schedule.proofs.Totals.{queue_total}
use Rattle.schedule.proofs.Closing.{entered_new, entered_before}
use Rattle.schedule.proofs.Span.{canonical_start}
use Rattle.reclaiming.specs.declared.Order.TheVariants.{Run, Idle}
use Rattle.reclaiming.specs.declared.Entry.{Entry}
use Rattle.reclaiming.specs.Allotments.{timing}
use Rattle.reclaiming.specs.Orders.{next_arrival, running_time, hold_of, order_with, running}
use Rattle.reclaiming.specs.Replies.{Reply, replied_by, is_order}
use Rattle.reclaiming.specs.Passes.{largest_clock, pass_questions, Pass}
use Rattle.reclaiming.specs.Books.{DispatcherBook, moved, booked, booked_all, ran_all, unopened_book, opened_book, ordered}
use Rattle.reclaiming.specs.StateBlock.{State, encode, decode, plan_in, work_of, remaining_of, rest_in, rest_of, no_entry, total_in, state_length}
use Rattle.reclaiming.specs.States.{new_entry, state_with, start_state, passed_state, passed_hold, view_of}
use Rattle.reclaiming.specs.Calls.{start_reply, start_buffer, start_number, start_order, queue_bytes, ready_queue, shown_bytes, pass_reply, show_number, show_reply, show_buffer, queued_reply}
use Rattle.reclaiming.specs.Run.{bytes_after, trace, started_bytes}
use Rattle.reclaiming.specs.Promises.{Started, OpenActual, InGap, OnTime, ClosesByArrival, ClosesInTime, MostUrgent, NamesMostUrgent, Shows, Demand3, QueueShown, ticks_in, TotalTold, PairsKept, AboveFloor, NeverCrawls, arrived_with, StaysSound, SameSpeeds, RunsMostUrgent, NoDeadEnd, Open, OneSchedule, EveryArrival, time_left, is_run, hold_in, last_order, state_after, actual_book, plain_book, replies}
use Rattle.reclaiming.proofs.Fine.{Ahead, Gap, Fine, fine_floor, Accepted, nominal_speed}
use Rattle.reclaiming.proofs.Replies.{is_idle, is_run_lem, view_order, order_accepted, order_booked, order_runs, order_held, not_refused}
use Rattle.reclaiming.proofs.Plans.{nominal_positive, plan_fits}
use Rattle.reclaiming.proofs.StateCodec.{StorableTable, length-encode}
use Rattle.reclaiming.proofs.Soundness.{queued_places, fine_length, fine_stored, fine_storable, pass_accepted, pass_yes, Starts, start_facts}
use Rattle.reclaiming.proofs.NextArrival.{next_soonest}
use Rattle.reclaiming.proofs.PassedStates.{choose_clock, choose_entries, choose_speeds}
use Rattle.reclaiming.proofs.PassSound.{start_fine, hold_accepted, finish_accepted}
use Rattle.reclaiming.proofs.Books.{OpenLatest, Held, held_start, Ended, ended_start, latest_arrived, latest_deadline, OpenSince, since_start, in_plain}
use Rattle.reclaiming.proofs.OrderFacts.{Runs, Ordered, idles, runs, order_facts}
use Rattle.reclaiming.proofs.Worked as worked
use Rattle.reclaiming.proofs.Runs.{Tied, Kept, idle_level, kept_pass, stored_sound, stored_length, speeds_are, decoded, reply_is}
use Rattle.std.specs.declared.result.Result.TheVariants.{Ok, Err}
use Rattle.plan.specs.Counted.{counted_by}

-- an order leaves a book's clock
pub ordered_clock : (b : DispatcherBook) (r : Reply) → (ordered b r).clock ≡ b.clock
ordered_clock b (Ok (Run task level hold)) = refl
ordered_clock b (Ok (Idle hold)) = refl
ordered_clock b (Err e) = refl

-- what an accepted start has shown
module _ (levels block pairs buffer : List ℕ) (ok : Started levels block pairs buffer) where
  abbrev speeds : List ℕ
  speeds = speeds_in levels

  abbrev ts : List Task
  ts = tasks_in block

  abbrev τ : Timing
  τ = timing speeds ts

  abbrev s : State
  s = start_state speeds ts

  number : start_number levels block pairs (length buffer) ≡ 0
  number = not_refused (start_number levels block pairs (length buffer)) (start_order speeds s) ok

  starts : Starts levels block pairs (length buffer)
  starts = start_facts levels block pairs (length buffer) number

  -- the level block was accepted, the block reads as an accepted plan, and the buffer had room
  pub table : FineTable speeds
  table = starts.table

  pub good : FineList speeds (length ts) ts
  good = starts.good

  pub room : state_length ≤ length buffer
  room = starts.long

  -- and each pair is good
  pairs_are : every (good_pair ts) (pairs_in pairs) ≡ true
  pairs_are = each_good ts pairs starts.paired

  fine : Fine speeds ts s
  fine = start_fine speeds ts good table.rising

  -- the state before an order is chosen in it
  abbrev unordered : State
  unordered = state_with 0 255 0 (list_to (length ts) (new_entry τ ts)) speeds

  clock : s.clock ≡ 0
  clock = choose_clock speeds τ unordered

  in_time : s.clock ≤ largest_clock
  in_time = omega (arith, clock)

  own : s.speeds ≡ speeds
  own = choose_speeds speeds τ unordered

  size : length (encode s) ≡ state_length
  size = length-encode s (fine_storable speeds ts s good table.rising (few_levels table) fine in_time (subst StorableTable (sym own) (fine_stored table))).count

  begun : started_bytes levels block pairs buffer ≡ encode s
  begun =
      ap (λ (n : ℕ). take state_length (stored_by n (encode s) buffer)) number
      ∙ take_at (encode s) (drop (length (encode s)) buffer) state_length size

  -- what lies past the state is untouched
  pub untouched : drop state_length (start_buffer levels block pairs buffer) ≡ drop state_length buffer
  untouched =
      ap (λ (n : ℕ). drop state_length (stored_by n (encode s) buffer)) number
      ∙ drop_at (encode s) (drop (length (encode s)) buffer) state_length size
      ∙ ap (λ (n : ℕ). drop n buffer) size

  pub entry : (i : ℕ) → i < length ts → get_or s.entries i no_entry ≡ new_entry τ ts i
  entry i h =
      ap (λ (l : List Entry). get_or l i no_entry) (choose_entries speeds τ unordered)
      ∙ get_d_list_to (length ts) (new_entry τ ts) i no_entry h

  left : (i : ℕ) → i < length ts → τ.allotment i ≡ remaining_of s i
  left i h = sym (ap (λ (e : Entry). e.remaining) (entry i h))

  open_all : (i : ℕ) → i < length ts → 0 < work_of s i
  open_all i h = subst (λ (e : Entry). 0 < e.work) (sym (entry i h)) (range_at ts i good.tasks.ranges h).worst_low

  fits : Fitting τ (hyperperiod ts)
  fits = plan_fits speeds ts good table.rising

  abbrev first : Reply
  first = start_reply levels block pairs (length buffer)

  abbrev hold : ℕ
  hold = hold_of speeds (timing speeds (plan_in s)) (view_of s)

  replied : first ≡ order_with (view_of s) hold
  replied = ap (λ (n : ℕ). replied_by n (start_order speeds s)) number

  -- the book at the start
  book :
      opened_book ts first
      ≡ record { clock = 0; closed = []; task = s.task; level = s.level; left = (unopened_book ts).left }
  book = ap (ordered (unopened_book ts)) replied ∙ order_booked s hold (idle_level good fine) (unopened_book ts)

  pub tied_start : Tied speeds ts s (opened_book ts first) (opened τ) first
  tied_start = record {
    fine = fine;
    clock = ap (λ (b : DispatcherBook). b.clock) book ∙ sym clock;
    task = ap (λ (b : DispatcherBook). b.task) book;
    level = ap (λ (b : DispatcherBook). b.level) book;
    left = λ i h. ap (λ (b : DispatcherBook). b.left i) book ∙ sym (ap rest_in (entry i h));
    held =
        subst₂ (λ (c : ℕ) (b : DispatcherBook). Held τ c (work_of s) b.closed) (sym clock) (sym book)
        (held_start τ (work_of s) fits.periods open_all);
    ended =
        subst₂ (λ (c : ℕ) (b : DispatcherBook). Ended τ c (work_of s) b.closed) (sym clock) (sym book) (ended_start τ (work_of s));
    plainly = ap (canonical_at τ) (sym clock);
    queue =
        subst (λ (c : ℕ). canonical_at τ c ≡ record { clock = c; pending = queue_of τ c (remaining_of s) τ.count }) (sym clock)
        (canonical_start τ (hyperperiod ts) fits
        ∙ (λ k. record { clock = 0; pending = queue_of_cong τ 0 τ.allotment (remaining_of s) τ.count left k }));
    since = subst (λ (c : ℕ). OpenSince τ c (work_of s)) (sym clock) (since_start τ (work_of s));
    order_is = replied ∙ ap (λ (l : List Task). order_with (view_of s) (hold_of speeds (timing speeds l) (view_of s))) fine.entries.plan;
  }

  pub kept_start : Kept speeds ts (started_bytes levels block pairs buffer) (opened_book ts first) (opened τ) first
  kept_start = record { state = s; stored = begun; in_time = in_time; own = own; tied = tied_start }

module _ (speeds : List ℕ) (table : FineTable speeds) where
  rising : Rising speeds
  rising = table.rising

  -- the tie after a whole list of passes
  module _ (ts : List Task) (good : FineList speeds (length ts) ts) where
    kept_run :
        (passes : List Pass) {bytes : List ℕ} {a : DispatcherBook} {b : Book} {last : Reply} →
        Kept speeds ts bytes a b last →
        Kept speeds ts (bytes_after bytes passes) (booked_all speeds ts a (trace bytes passes))
        (ran_all (timing speeds ts) b (trace bytes passes)) (last_order last (trace bytes passes))
    kept_run [] k = k
    kept_run (p ∷ ps) {bytes} {a} {b} {last} k = kept_run ps (kept_pass speeds table ts good p bytes a b last k)

    -- what the tie says of the books
    module _ {s : State} {a : DispatcherBook} {b : Book} {last : Reply} (t : Tied speeds ts s a b last) where
      fits_run : Fitting (timing speeds ts) (hyperperiod ts)
      fits_run = plan_fits speeds ts good rising

      pub plain_is : b ≡ record { clock = s.clock; pending = queue_of (timing speeds ts) s.clock (remaining_of s) (length ts) }
      plain_is = t.plainly ∙ t.queue

      here : (j : Job) → Arrived (timing speeds ts) a.clock j → Arrived (timing speeds ts) s.clock j
      here j r = subst (λ (c : ℕ). Arrived (timing speeds ts) c j) t.clock r

      past : (j : Job) → j.task < length ts → j ≡ latest (timing speeds ts) s.clock j.task → deadline (timing speeds ts) j ≤ a.clock → ⊥
      past j h e l =
          omega (
            arith,
            t.clock,
            subst (λ (x : Job). s.clock < deadline (timing speeds ts) x) (sym e)
                (latest_deadline (timing speeds ts) s.clock j.task (fits_run.periods j.task h)),
          )

      -- a job that is open in the plain schedule is one of its entries
      plain_in : (j : Job) (o : OpenPlain b j) → In (record { job = j; remaining = o.0 }) (canonical_at (timing speeds ts) s.clock).pending
      plain_in j o = subst (λ (k : Book). In (record { job = j; remaining = o.0 }) k.pending) t.plainly (o.1)

      plain_arrived : (j : Job) → OpenPlain b j → Arrived (timing speeds ts) s.clock j
      plain_arrived j o =
          let entry =
          all_in (invariant.Open (timing speeds ts) s.clock) (canonical_at (timing speeds ts) s.clock).pending
          (canonical_good (timing speeds ts) fits_run.allotments s.clock).entries (record { job = j; remaining = o.0 }) (plain_in j o) in
          record { task = entry.task; arrival = entry.arrived; multiple = entry.multiple }

      -- an open job of the dispatcher's book is its task's latest, and has work left
      pub open_latest : (j : Job) → OpenActual (timing speeds ts) a j → OpenLatest (timing speeds ts) s.clock (work_of s) j
      open_latest j o = ⊎_elim (λ m. absurd (o.unclosed m)) (λ e. e) (t.held j (here j o.arrived))

      -- the running job's time left, by the book
      time_below : s.task < length ts → time_left speeds a ≡ running_time speeds (view_of s)
      time_below h =
          ap₂ (λ (l i : ℕ). time_of (speed_of speeds l) (a.left i)) t.level t.task
          ∙ ap (time_of (speed_of speeds s.level)) (t.left s.task h)

      -- where every task is ahead, such a job has ticks left in the plain schedule
      open_ahead : Ahead speeds ts s → (j : Job) → OpenActual (timing speeds ts) a j → OpenPlain b j
      open_ahead ahead j o =
          let e : OpenLatest (timing speeds ts) s.clock (work_of s) j = open_latest j o in
          let h : j.task < length ts = o.arrived.task in
          in_plain (timing speeds ts) s.clock (remaining_of s) (length ts) plain_is j h e.0
          (omega (
            arith,
            time_some (nominal_speed speeds ts) (rest_of s j.task) (nominal_positive speeds ts good rising) e.1,
            ahead j.task h,
          ))

      -- in a gap it is the order's
      gap_task : Gap speeds ts s → (j : Job) → OpenActual (timing speeds ts) a j → j.task ≡ s.task
      gap_task g j o =
          elim (ℕ_discrete j.task s.task) [
            | yes e ↦ e
            | no e ↦ absurd (omega (arith, (open_latest j o).1, g.others j.task o.arrived.task e))
          ]

      gap_job : Gap speeds ts s → (j : Job) → OpenActual (timing speeds ts) a j → j ≡ latest (timing speeds ts) a.clock a.task
      gap_job g j o = (open_latest j o).0 ∙ ap₂ (latest (timing speeds ts)) (sym t.clock) (gap_task g j o ∙ sym t.task)

      pub open_gap : Gap speeds ts s → (j : Job) → OpenActual (timing speeds ts) a j → InGap speeds (timing speeds ts) a j
      open_gap g j o = record {
        runs = gap_job g j o;
        alone = λ k p. gap_job g k p ∙ sym (gap_job g j o);
        time = omega (arith, book_time, ap (next_arrival (timing speeds ts)) t.clock, g.time);
      }
        where
          below : s.task < length ts
          below = subst (λ (i : ℕ). i < length ts) (gap_task g j o) o.arrived.task

          book_time : time_left speeds a ≡ running_time speeds (view_of s)
          book_time = time_below below

      stays_open : (j : Job) → OpenActual (timing speeds ts) a j → OpenPlain b j ⊎ InGap speeds (timing speeds ts) a j
      stays_open j o = ⊎_elim (λ ahead. inl (open_ahead ahead j o)) (λ g. inr (open_gap g j o)) t.fine.pace

      -- at every arrival since its own it was open in the plain schedule
      open_since :
          (j : Job) →
          OpenActual (timing speeds ts) a j →
          (k : Job) →
          Arrived (timing speeds ts) s.clock k →
          j.arrival < k.arrival →
          OpenPlain (canonical_at (timing speeds ts) k.arrival) j
      open_since j o k r h = t.since j (here j o.arrived) (open_latest j o) k r h

      -- so at an arrival it still is; and one that arrives there is open
      arrival_open :
          (k : Job) →
          Arrived (timing speeds ts) a.clock k →
          k.arrival ≡ a.clock →
          (j : Job) →
          OpenActual (timing speeds ts) a j →
          OpenPlain b j
      arrival_open k r e j o =
          elim (dec_le (suc j.arrival) a.clock) [
            | yes older ↦
                subst (λ (x : Book). OpenPlain x j) (ap (canonical_at (timing speeds ts)) (e ∙ t.clock) ∙ sym t.plainly)
                (open_since j o k (here k r) (omega arith))
            | no new ↦
                let now : j.arrival ≡ s.clock = omega (arith, o.arrived.arrival, t.clock) in
                subst (λ (x : Book). OpenPlain x j) (ap (canonical_at (timing speeds ts)) now ∙ sym t.plainly)
                (entered_new (timing speeds ts) j o.arrived.task o.arrived.multiple)
          ]

      -- and closed before one, it is not open past it
      open_until :
          (j : Job) →
          OpenActual (timing speeds ts) a j →
          (finish : ℕ) →
          Arrived (timing speeds ts) finish j →
          (OpenPlain (canonical_at (timing speeds ts) finish) j → ⊥) →
          (k : Job) →
          Arrived (timing speeds ts) k.arrival k →
          finish < k.arrival →
          s.clock < k.arrival
      open_until j o finish r shut k q h =
          elim (dec_le k.arrival s.clock) [
            | no late ↦ omega arith
            | yes reached ↦
                let then : Arrived (timing speeds ts) s.clock k = record { task = q.task; arrival = reached; multiple = q.multiple } in
                let later : OpenPlain (canonical_at (timing speeds ts) k.arrival) j = open_since j o k then (omega (arith, r.arrival)) in
                let same : k.arrival ≡ finish + (k.arrival - finish) = omega arith in
                absurd
                (shut
                (entered_before (timing speeds ts) j finish (k.arrival - finish) r.arrival
                (subst (λ (x : ℕ). OpenPlain (canonical_at (timing speeds ts) x) j) same later)))
          ]

      on_time : OnTime speeds (timing speeds ts) a b
      on_time = record {
        clocks = t.clock ∙ sym (ap (λ (k : Book). k.clock) plain_is);
        arrivals = λ j o. subst (λ (c : ℕ). Arrived (timing speeds ts) c j) (sym t.clock) (plain_arrived j o);
        ahead = stays_open;
        at_arrivals = arrival_open;
        actual_closed = λ j r l. ⊎_elim (λ m. m) (λ e. absurd (past j r.task e.0 l)) (t.held j (here j r));
        plain_closed = λ j r l o.
            let late : s.clock < deadline (timing speeds ts) j =
            all_in (λ (e : Pending). s.clock < deadline (timing speeds ts) e.job) (canonical_at (timing speeds ts) s.clock).pending
            (never_late (timing speeds ts) (hyperperiod ts) fits_run s.clock) (record { job = j; remaining = o.0 }) (plain_in j o) in
            omega (arith, ap (λ (k : Book). k.clock) plain_is);
      }

      -- a task's latest job that has work left is open there
      is_open : (i : ℕ) → i < length ts → 0 < work_of s i → OpenActual (timing speeds ts) a (latest (timing speeds ts) a.clock i)
      is_open i h w =
          let now : latest (timing speeds ts) a.clock i ≡ latest (timing speeds ts) s.clock i = ap (λ (c : ℕ). latest (timing speeds ts) c i) t.clock in
          record {
            arrived = latest_arrived (timing speeds ts) a.clock i h;
            unclosed = λ m. omega (arith, t.ended.done (latest (timing speeds ts) a.clock i) m now);
          }

      names_most_urgent : NamesMostUrgent (timing speeds ts) a last
      names_most_urgent =
          subst (NamesMostUrgent (timing speeds ts) a) (sym t.order_is)
          (elim (view_order s (hold_of speeds (timing speeds ts) (view_of s))) as (λ r _. NamesMostUrgent (timing speeds ts) a r) [
            | is_idle e ↦ λ j o. nothing_open e j o
            | is_run_lem e ↦ runs_first (running_facts e)
          ])
        where
          order : Ordered speeds (timing speeds ts) (nominal speeds ts) s
          order = worked.ordered speeds ts s t.fine

          nothing_open : s.task ≡ 255 → (j : Job) → OpenActual (timing speeds ts) a j → ⊥
          nothing_open e j o =
              elim order [
                | idles x y z ↦ omega (arith, (open_latest j o).1, z j.task o.arrived.task)
                | runs r ↦ omega (arith, r.below, good.count_high)
              ]

          running_facts : (s.task ≡ 255 → ⊥) → Runs speeds (timing speeds ts) (nominal speeds ts) s
          running_facts ne = elim order [ idles x y z ↦ absurd (ne x) | runs r ↦ r ]

          runs_first : Runs speeds (timing speeds ts) (nominal speeds ts) s → MostUrgent (timing speeds ts) a (latest (timing speeds ts) a.clock s.task)
          runs_first r = record {
            is_open = is_open s.task r.below r.work;
            most_urgent = λ k o. behind k o (ℕ_discrete k.task s.task);
          }
            where
              behind :
                  (k : Job) →
                  OpenActual (timing speeds ts) a k →
                  Dec (k.task ≡ s.task) →
                  (k ≡ latest (timing speeds ts) a.clock s.task) ⊎ (more_urgent (timing speeds ts) (latest (timing speeds ts) a.clock s.task) k ≡ true)
              behind k o (yes e) =
                  inl ((open_latest k o).0 ∙ ap₂ (latest (timing speeds ts)) (sym t.clock) e)
              behind k o (no e) =
                  inr
                  (urgent_true (timing speeds ts) (latest (timing speeds ts) a.clock s.task) k
                  (subst₂ (MoreUrgent (timing speeds ts)) (ap (λ (c : ℕ). latest (timing speeds ts) c s.task) (sym t.clock)) (sym (open_latest k o).0)
                  (r.urgent k.task o.arrived.task (open_latest k o).1 e)))

      -- of two jobs that arrive together the earlier task's is more urgent: open, it would be the one that runs
      pair_closed : (p : Pair) → GoodPair ts p → a.task ≡ p.later → In (arrived_with (timing speeds ts) a p.earlier) a.closed
      pair_closed p q same =
          elim (worked.ordered speeds ts s t.fine) [
            | idles e l z ↦ absurd (omega (arith, t.task, q.later_below, good.count_high))
            | runs r ↦ ⊎_elim (λ m. m) (λ o. absurd (runs_instead r o)) (t.held with_it (here with_it arrived))
          ]
        where
          with_it : Job
          with_it = arrived_with (timing speeds ts) a p.earlier

          before : Before (timing speeds ts) p.earlier a.task
          before =
              subst (Before (timing speeds ts) p.earlier) (sym same)
              (record {
                first_positive = fits_run.periods p.earlier q.earlier_below;
                second_positive = fits_run.periods p.later q.later_below;
                multiple = q.multiple;
                lower_number = q.lower;
              })

          arrived : Arrived (timing speeds ts) a.clock with_it
          arrived =
              let run = latest_arrived (timing speeds ts) a.clock a.task (omega (arith, q.later_below)) in
              record { task = q.earlier_below; arrival = run.arrival; multiple = arrives_too before with_it.arrival run.multiple }

          -- it is another task's
          other : p.earlier ≢ s.task
          other e = let i : p.earlier ≡ p.later = e ∙ (sym t.task ∙ same) in omega (arith, q.lower (ap (period_of ts) i))

          runs_instead : Runs speeds (timing speeds ts) (nominal speeds ts) s → OpenLatest (timing speeds ts) s.clock (work_of s) with_it → ⊥
          runs_instead r o =
              asymmetric (urgent_before before with_it.arrival)
              (subst₂ (MoreUrgent (timing speeds ts)) (ap₂ (latest (timing speeds ts)) (sym t.clock) (sym t.task)) (sym o.0)
              (r.urgent p.earlier q.earlier_below o.1 other))

      held_is : hold_in last ≡ hold_of speeds (timing speeds ts) (view_of s)
      held_is = ap hold_in t.order_is ∙ order_held s (hold_of speeds (timing speeds ts) (view_of s))

      runs_is : is_run last ≡ running (view_of s)
      runs_is = ap is_run t.order_is ∙ order_runs s (hold_of speeds (timing speeds ts) (view_of s))

      time_is : running (view_of s) ≡ true → time_left speeds a ≡ running_time speeds (view_of s)
      time_is r =
          elim (worked.ordered speeds ts s t.fine) [
            | idles e l z ↦ absurd (true≢false (sym r ∙ ap not (eq-eqb s.task 255 e)))
            | runs k ↦ time_below k.below
          ]

    -- what the bytes say, too
    module _ {bytes : List ℕ} {a : DispatcherBook} {b : Book} {last : Reply} (k : Kept speeds ts bytes a b last) where
      abbrev now : State
      now = k.state

      abbrev t : Tied speeds ts k.state a b last
      t = k.tied

      pub is_state : decode bytes ≡ now
      is_state = decoded speeds table ts good k.stored k.in_time k.own t.fine

      -- what is told of the total is the sum over the plain schedule's ready queue
      told : queued_reply bytes ≡ Ok (ticks_in b.pending)
      told =
          let size : length bytes ≡ state_length = stored_length speeds table ts good k.stored k.in_time k.own t.fine in
          let n : length now.entries ≡ length ts = fine_length t.fine.entries in
          let all : now.total ≡ ticks_in b.pending =
          t.fine.entries.total
          ∙ queued_places now n
          ∙ sym (queue_total (timing speeds ts) now.clock (remaining_of now) (length ts))
          ∙ sym (ap (λ (x : Book). ticks_in x.pending) (plain_is t)) in
          ap (λ (m : ℕ). counted_by m (total_in bytes)) (ask_yes 10 (eq-eqb (length bytes) state_length size) refl)
          ∙ ap Ok (ap (λ (x : State). x.total) is_state ∙ all)

      -- what showing writes is the plain schedule's ready queue
      shown : shown_bytes bytes ≡ queue_bytes b.pending
      shown =
          ap₂ (λ (v : List ℕ) (x : State). queue_bytes (ready_queue v x)) (ap (λ (x : State). x.speeds) is_state ∙ k.own) is_state
          ∙ ap₂ (λ (l : List Task) (k : ℕ). queue_bytes (queue_of (timing speeds l) now.clock (remaining_of now) k))
          t.fine.entries.plan (fine_length t.fine.entries)
          ∙ sym (ap (λ (k : Book). queue_bytes k.pending) (plain_is t))

      -- and so is what it answers and leaves, since the state is sound
      shows : (lent : List ℕ) → Shows b.pending lent (show_reply bytes (length lent)) (show_buffer bytes lent)
      shows lent =
          let asked : show_number bytes (length lent) ≡ room_number (length (queue_bytes b.pending)) (length lent) =
          ask_yes 10 (stored_sound speeds table ts good k.stored k.in_time k.own t.fine) (ap (λ (l : List ℕ). room_number (length l) (length lent)) shown) in
          record { answers = ap₂ written_by asked shown; leaves = ap₂ (λ (n : ℕ) (l : List ℕ). stored_by n l lent) asked shown }

      -- an accepted pass within the largest clock is answered with an order
      answered :
          (d : ℕ) (finished : Bool) →
          Accepted speeds (timing speeds ts) now d finished →
          a.clock + d ≤ largest_clock →
          is_order (pass_reply bytes d finished) ≡ true
      answered d finished ok late =
          ap is_order (reply_is speeds table ts good k.stored k.in_time k.own t.fine d finished)
          ∙ ap (λ (n : ℕ). is_order (replied_by n (order_with (view_of next) hold)))
          (pass_yes speeds now d finished (subst (λ (l : List Task). Accepted speeds (timing speeds l) now d finished) (sym t.fine.entries.plan) ok)
          (subst (λ (c : ℕ). c + d ≤ largest_clock) t.clock late))
          ∙ order_accepted next hold
        where
          next : State
          next = passed_state speeds (timing speeds ts) now d finished

          hold : ℕ
          hold = passed_hold speeds (timing speeds ts) now d finished

      -- whether the pass that the order suggests says finished, by the book and by the state
      says_finished :
          both (is_run last) (eqb (hold_in last) (time_left speeds a))
          ≡ both (running (view_of now)) (eqb (hold_of speeds (timing speeds ts) (view_of now)) (running_time speeds (view_of now)))
      says_finished =
          ap₂ (λ (r : Bool) (h : ℕ). both r (eqb h (time_left speeds a))) (runs_is t) (held_is t)
          ∙ elim (tested (running (view_of now)))
          as (λ r _. running (view_of now) ≡ r → both r (eqb hold (time_left speeds a)) ≡ both r (eqb hold (running_time speeds (view_of now))))
          [ passed ↦ λ e. ap (eqb hold) (time_is t e) | failed ↦ λ e. refl ]
          refl
        where
          hold : ℕ
          hold = hold_of speeds (timing speeds ts) (view_of now)

      -- so neither the suggested pass nor an early finish is refused
      not_dead : Open speeds bytes last a
      not_dead = record {
        suggested = λ l.
            answered (hold_in last) (both (is_run last) (eqb (hold_in last) (time_left speeds a)))
            (subst₂ (Accepted speeds (timing speeds ts) now) (sym (held_is t)) (sym says_finished) (hold_accepted speeds rising ts good now t.fine))
            l;
        early = λ d low high l r.
            answered d true
            (finish_accepted speeds rising ts good now t.fine d low (subst (λ (h : ℕ). d ≤ h) (held_is t) high) (sym (runs_is t) ∙ r))
            l;
      }

    -- a pass ends no later than the next arrival, so it closes nothing past one
    module _ (p : Pass) {bytes : List ℕ} {a : DispatcherBook} {b : Book} {last : Reply} (k : Kept speeds ts bytes a b last) where
      abbrev given : Reply
      given = pass_reply bytes p.d p.finished

      abbrev asked : ℕ
      asked = first_no (pass_questions speeds (timing speeds (plan_in k.state)) (view_of k.state) p.d p.finished)

      pass_within : is_order given ≡ true → p.d ≤ next_arrival (timing speeds ts) k.state.clock
      pass_within e =
          let s : State = k.state in
          let next : State = passed_state speeds (timing speeds ts) s p.d p.finished in
          let hold : ℕ = passed_hold speeds (timing speeds ts) s p.d p.finished in
          let replied = reply_is speeds table ts good k.stored k.in_time k.own k.tied.fine p.d p.finished in
          let zero-no : asked ≡ 0 = not_refused asked (order_with (view_of next) hold) (sym (ap is_order replied) ∙ e) in
          subst (λ (l : List Task). p.d ≤ next_arrival (timing speeds l) s.clock) k.tied.fine.entries.plan
          (pass_accepted speeds s p.d p.finished zero-no).0.within

      closes_pass : ClosesByArrival (timing speeds ts) a (booked speeds ts a p given)
      closes_pass j o closed finish r shut i q h =
          elim (tested (is_order given))
          as (λ x _.
          is_order given ≡ x →
          In j (pick x (ordered (moved speeds ts a p) given) a).closed →
          (pick x (ordered (moved speeds ts a p) given) a).clock ≤ i.arrival)
          [ passed ↦ λ e m. subst (λ (c : ℕ). c ≤ i.arrival) (sym (ordered_clock (moved speeds ts a p) given)) (in_time e) | failed ↦ λ e m. absurd (o.unclosed m) ]
          refl closed
        where
          now : ℕ
          now = k.state.clock

          in_time : is_order given ≡ true → a.clock + p.d ≤ i.arrival
          in_time e =
              let ahead : now < i.arrival = open_until k.tied j o finish r shut i q h in
              let same : now + (i.arrival - now) ≡ i.arrival = omega arith in
              omega (
                arith,
                k.tied.clock,
                pass_within e,
                next_soonest (timing speeds ts) good.count_low (fits_run k.tied).periods now i.task (i.arrival - now) q.task
                    (omega arith) (subst (λ (x : ℕ). x % (timing speeds ts).period i.task ≡ 0) (sym same) q.multiple),
              )

    -- of any list of passes, each
    closes_run :
        (passes : List Pass) (n : ℕ) {bytes : List ℕ} {a : DispatcherBook} {b : Book} {last : Reply} →
        Kept speeds ts bytes a b last →
        ClosesByArrival (timing speeds ts) (booked_all speeds ts a (trace bytes (take n passes))) (booked_all speeds ts a (trace bytes (take (suc n) passes)))
    closes_run [] zero k = λ j o m. absurd (o.unclosed m)
    closes_run [] (suc n) k = λ j o m. absurd (o.unclosed m)
    closes_run (p ∷ ps) zero k = closes_pass p k
    closes_run (p ∷ ps) (suc n) {bytes} {a} {b} {last} k = closes_run ps n (kept_pass speeds table ts good p bytes a b last k)

-- a run: an accepted start, then any list of passes
pub after_run :
    (levels block pairs buffer : List ℕ) (passes : List Pass) →
    Started levels block pairs buffer →
    Kept (speeds_in levels) (tasks_in block) (state_after levels block pairs buffer passes) (actual_book levels block pairs buffer passes)
    (plain_book levels block pairs buffer passes) (last_order (start_reply levels block pairs (length buffer)) (replies levels block pairs buffer passes))
after_run levels block pairs buffer passes ok =
    kept_run (speeds_in levels) (table levels block pairs buffer ok) (tasks_in block) (good levels block pairs buffer ok) passes (kept_start levels block pairs buffer ok)

-- the state is 221 bytes all along
pub after_length :
    (levels block pairs buffer : List ℕ) (passes : List Pass) → Started levels block pairs buffer → length (state_after levels block pairs buffer passes) ≡ state_length
after_length levels block pairs buffer passes ok =
    let k = after_run levels block pairs buffer passes ok in
    stored_length (speeds_in levels) (table levels block pairs buffer ok) (tasks_in block) (good levels block pairs buffer ok) k.stored k.in_time k.own
    k.tied.fine

pub demand_3 : Demand3
demand_3 levels block pairs buffer passes ok =
    on_time (speeds_in levels) (table levels block pairs buffer ok) (tasks_in block) (good levels block pairs buffer ok) (after_run levels block pairs buffer passes ok).tied

pub closes_in_time : ClosesInTime
closes_in_time levels block pairs buffer passes n ok =
    closes_run (speeds_in levels) (table levels block pairs buffer ok) (tasks_in block) (good levels block pairs buffer ok) passes n (kept_start levels block pairs buffer ok)

pub queue_shown : QueueShown
queue_shown levels block pairs buffer passes lent ok =
    shows (speeds_in levels) (table levels block pairs buffer ok) (tasks_in block) (good levels block pairs buffer ok) (after_run levels block pairs buffer passes ok) lent

pub total_told : TotalTold
total_told levels block pairs buffer passes ok =
    told (speeds_in levels) (table levels block pairs buffer ok) (tasks_in block) (good levels block pairs buffer ok) (after_run levels block pairs buffer passes ok)

pub runs_most_urgent : RunsMostUrgent
runs_most_urgent levels block pairs buffer passes ok =
    names_most_urgent (speeds_in levels) (table levels block pairs buffer ok) (tasks_in block) (good levels block pairs buffer ok)
    (after_run levels block pairs buffer passes ok).tied

pub pairs_kept : PairsKept
pairs_kept levels block pairs buffer passes ok p m =
    pair_closed (speeds_in levels) (table levels block pairs buffer ok) (tasks_in block) (good levels block pairs buffer ok)
    (after_run levels block pairs buffer passes ok).tied
    p
    (good_pair_lem (tasks_in block) p (every_in (good_pair (tasks_in block)) (pairs_in pairs) (pairs_are levels block pairs buffer ok) p m))

-- the order of a state that is tied to the books runs no task below its floor; a plan has none for the number of an idle order
floor_kept :
    (speeds : List ℕ) (ts : List Task) →
    FineList speeds (length ts) ts →
    {s : State} {a : DispatcherBook} {b : Book} {last : Reply} →
    Tied speeds ts s a b last →
    AboveFloor ts a
floor_kept speeds ts good {s} {a} t =
    subst₂ (λ (task level : ℕ). (get_or ts task no_task).floor ≤ level) (sym t.task) (sym t.level)
    (elim (order_facts speeds (timing speeds ts) (nominal speeds ts) s t.fine.order) [
      | idles e l none ↦
          let past : get_or ts s.task no_task ≡ no_task = get_or-eq_default ts no_task (omega (arith, good.count_high)) in
          omega (arith, ap (λ (t : Task). t.floor) past)
      | runs r ↦ omega (arith, fine_floor t.fine.entries s.task, r.floor)
    ])

pub never_crawls : NeverCrawls
never_crawls levels block pairs buffer passes ok =
    floor_kept (speeds_in levels) (tasks_in block) (good levels block pairs buffer ok) (after_run levels block pairs buffer passes ok).tied

pub stays_sound : StaysSound
stays_sound levels block pairs buffer passes ok =
    let k = after_run levels block pairs buffer passes ok in
    stored_sound (speeds_in levels) (table levels block pairs buffer ok) (tasks_in block) (good levels block pairs buffer ok) k.stored k.in_time k.own
    k.tied.fine

pub same_speeds : SameSpeeds
same_speeds levels block pairs buffer passes ok =
    let k = after_run levels block pairs buffer passes ok in
    speeds_are (speeds_in levels) (table levels block pairs buffer ok) (tasks_in block) (good levels block pairs buffer ok) k.stored k.in_time k.own
    k.tied.fine

pub no_dead_end : NoDeadEnd
no_dead_end levels block pairs buffer passes ok =
    not_dead (speeds_in levels) (table levels block pairs buffer ok) (tasks_in block) (good levels block pairs buffer ok) (after_run levels block pairs buffer passes ok)

pub one_schedule : OneSchedule
one_schedule levels block pairs buffer passes ok =
    let t = (after_run levels block pairs buffer passes ok).tied in
    t.plainly ∙ ap (canonical_at (timing (speeds_in levels) (tasks_in block))) (sym t.clock)

pub every_arrival : EveryArrival
every_arrival levels block pairs buffer passes ok =
    subst (AllotmentsGiven plan) (sym (one_schedule levels block pairs buffer passes ok))
    (allotments_given plan (fits levels block pairs buffer ok).allotments (actual_book levels block pairs buffer passes).clock)
  where
    plan : Timing
    plan = timing (speeds_in levels) (tasks_in block)
