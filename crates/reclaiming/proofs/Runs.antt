-- What ties a state to the two books, and its bytes to the state, kept by every pass, refused or not. The first is of a state whose clock
-- is any number; only the second, the block, has a largest clock.
-- Assumes nothing.
use Prim.Native.Nat.{ℕ, zero, suc, ◌+◌, ◌%◌, ◌≤◌, ◌<◌}
use mathlib.Core.Path.{◌≡◌, refl, sym, subst, ap, ap₂, ◌∙◌}
use mathlib.Core.Bool.{Bool, true, true≢false, not}
use mathlib.Core.List.{List, ◌∷◌, ◌++◌, append-nil}
use mathlib.Core.Logic.{⊎_elim}
use native.Mathlib.Decide.{ℕ_discrete}
use native.Mathlib.Omega.{arith}
use borrow.Author.Tests.{le-leb, eq-eqb}
use lib.Dec.{eqb}
use lib.ListN.{length, get_or, drop_of_length-le}
use Rattle.arith.specs.Choice.{pick}
use Rattle.arith.specs.Asking.{first_no}
use Rattle.arith.proofs.Tests.{passed, failed, tested, both_true}
use Rattle.arith.proofs.QuestionLaws.{ask_yes}
use Rattle.arith.proofs.RangeLaws.{some_yes}
use Rattle.plan.specs.declared.Task.{Task}
use Rattle.plan.specs.declared.Rest.{Rest}
use Rattle.plan.specs.Times.{whole, no_rest, time_of, worn}
use Rattle.plan.specs.Levels.{Rising, speed_of, hyperperiod}
use Rattle.plan.specs.LevelBlocks.{table_good}
use Rattle.plan.specs.Blocks.{no_task}
use Rattle.plan.specs.Answers.{stored_by}
use Rattle.plan.proofs.TimeLaws.{time_some}
use Rattle.plan.proofs.LevelBlockLaws.{FineTable, few_levels}
use Rattle.plan.proofs.Facts.{FineList, range_at}
use Rattle.schedule.specs.PlainSchedule.{Timing, Job, Book, latest, canonical_at, after, queue_of, opened}
use Rattle.schedule.specs.Feasibility.{Fitting}
use Rattle.schedule.specs.Served.{Arrived}
use Rattle.schedule.proofs.Drain.{Quiet}
use Rattle.schedule.proofs.QueueLaws.{queue_of_cong}
use Rattle.schedule.proofs.Span.{canonical_span, after_add, renewed, nothing_old}
use Rattle.schedule.proofs.Closing.{Entered}
use Rattle.reclaiming.specs.Allotments.{timing}
use Rattle.reclaiming.specs.Orders.{next_arrival, hold_of, order_with}
use Rattle.reclaiming.specs.Replies.{Reply, replied_by}
use Rattle.reclaiming.specs.Passes.{arrives_at, largest_clock, in_time, pass_questions, Pass}
use Rattle.reclaiming.specs.Books.{DispatcherBook, ordered, moved, booked, ran, left_after}
use Rattle.reclaiming.specs.StateBlock.{State, encode, decode, laid_out, plan_in, work_of, remaining_of, rest_of, state_length}
use Rattle.reclaiming.specs.States.{passed_state, passed_hold, worked_of, drained_of, view_of}
use Rattle.reclaiming.specs.Questions.{sound, state_sound}
use Rattle.reclaiming.specs.Calls.{pass_number, pass_reply, pass_bytes}
use Rattle.reclaiming.specs.Promises.{order_after}
use Rattle.reclaiming.proofs.Fine.{Ahead, Gap, Fine, Accepted, nominal_speed}
use Rattle.reclaiming.proofs.Replies.{is_idle, is_run_lem, view_order, order_booked, order_stands}
use Rattle.reclaiming.proofs.Plans.{nominal_positive, plan_fits}
use Rattle.reclaiming.proofs.StateCodec.{Storable, StorableTable, decode-encode, length-encode, laid_out_lem}
use Rattle.reclaiming.proofs.Soundness.{fine_sound, pass_accepted, fine_stored, fine_storable}
use Rattle.reclaiming.proofs.OrderFacts.{idles, runs}
use Rattle.reclaiming.proofs.NextArrival.{next_quiet, next_soonest}
use Rattle.reclaiming.proofs.Worked.{worked_other, worked_mine, worked_less, worked_was, worked_open}
use Rattle.reclaiming.proofs.Worked.{Reclaims, paced, stays_ahead, gap_finished, gap_arrives}
use Rattle.reclaiming.proofs.Worked as worked
use Rattle.reclaiming.proofs.PassedStates.{new_rest_lem, old_rest, passed_rest, passed_remaining, passed_clock, passed_speeds}
use Rattle.reclaiming.proofs.PassSound.{pass_fine, pass_hold, arrival_ahead}
use Rattle.reclaiming.proofs.Books.{OpenLatest, Held, held_pass, Ended, ended_pass, OpenSince, since_pass, in_plain}

-- a state, and what the books have of it
pub record Tied (speeds : List ℕ) (ts : List Task) (s : State) (actual : DispatcherBook) (plain : Book) (order : Reply) : Type 0 where
  pub fine : Fine speeds ts s
  pub clock : actual.clock ≡ s.clock
  pub task : actual.task ≡ s.task
  pub level : actual.level ≡ s.level
  pub left : (i : ℕ) → i < length ts → actual.left i ≡ rest_of s i
  pub held : Held (timing speeds ts) s.clock (work_of s) actual.closed
  pub ended : Ended (timing speeds ts) s.clock (work_of s) actual.closed
  pub plainly : plain ≡ canonical_at (timing speeds ts) s.clock
  pub queue :
      canonical_at (timing speeds ts) s.clock
      ≡ record { clock = s.clock; pending = queue_of (timing speeds ts) s.clock (remaining_of s) (timing speeds ts).count }
  pub since : OpenSince (timing speeds ts) s.clock (work_of s)
  pub order_is : order ≡ order_with (view_of s) (hold_of speeds (timing speeds ts) (view_of s))

-- a state is tied to the books, the bytes are its block, and its speeds are those that were loaded
pub record Kept (speeds : List ℕ) (ts : List Task) (bytes : List ℕ) (actual : DispatcherBook) (plain : Book) (order : Reply) : Type 0 where
  pub state : State
  pub tied : Tied speeds ts state actual plain order
  pub stored : bytes ≡ encode state
  pub in_time : state.clock ≤ largest_clock
  pub own : state.speeds ≡ speeds

-- an idle order is at level 0
pub idle_level : {speeds : List ℕ} {ts : List Task} {s : State} → FineList speeds (length ts) ts → Fine speeds ts s → s.task ≡ 255 → s.level ≡ 0
idle_level {speeds} {ts} {s} good fine e =
    elim (worked.ordered speeds ts s fine) [ idles t l z ↦ l | runs r ↦ absurd (omega (arith, r.below, good.count_high)) ]

-- an order, whatever it is, moves the books by its pass
module _ (speeds : List ℕ) (ts : List Task) (p : Pass) (s : State) (hold : ℕ) where
  pub order_recorded :
      (s.task ≡ 255 → s.level ≡ 0) →
      (a : DispatcherBook) →
      booked speeds ts a p (order_with (view_of s) hold)
      ≡ record {
        clock = (moved speeds ts a p).clock;
        closed = (moved speeds ts a p).closed;
        task = s.task;
        level = s.level;
        left = (moved speeds ts a p).left;
      }
  order_recorded idle a =
      elim (view_order s hold) as (λ r _. booked speeds ts a p r ≡ ordered (moved speeds ts a p) r) [ is_idle e ↦ refl | is_run_lem e ↦ refl ]
      ∙ order_booked s hold idle (moved speeds ts a p)

  pub order_ran : (τ : Timing) (b : Book) → ran τ b p (order_with (view_of s) hold) ≡ after τ p.d b
  order_ran τ b = elim (view_order s hold) as (λ r _. ran τ b p r ≡ after τ p.d b) [ is_idle e ↦ refl | is_run_lem e ↦ refl ]

-- a plan that was accepted, over a table of speeds
module _ (speeds : List ℕ) (table : FineTable speeds) (ts : List Task) (good : FineList speeds (length ts) ts) where
  abbrev τ : Timing
  τ = timing speeds ts

  rising : Rising speeds
  rising = table.rising

  few : length speeds ≤ 16
  few = few_levels table

  fits : Fitting τ (hyperperiod ts)
  fits = plan_fits speeds ts good rising

  -- bytes that a sound state was stored as are sound, and read as that state
  module _ {s : State} {bytes : List ℕ} (stored : bytes ≡ encode s) (in_time_lem : s.clock ≤ largest_clock) (own : s.speeds ≡ speeds)
      (fine : Fine speeds ts s) where
    fits_block : {held : List ℕ} → held ≡ speeds → StorableTable held
    fits_block e = subst StorableTable (sym e) (fine_stored table)

    storable : Storable s
    storable = fine_storable speeds ts s good rising few fine in_time_lem (fits_block own)

    pub decoded : decode bytes ≡ s
    decoded = ap decode stored ∙ decode-encode s storable

    -- the speeds in them are those that were loaded
    pub speeds_are : (decode bytes).speeds ≡ speeds
    speeds_are = ap (λ (x : State). x.speeds) decoded ∙ own

    pub stored_sound : sound bytes ≡ true
    stored_sound =
        both_true (ap table_good speeds_are ∙ table.good)
        (both_true (ap laid_out stored ∙ laid_out_lem s storable)
        (both_true (ap (λ (x : State). in_time x.clock) decoded ∙ le-leb s.clock largest_clock in_time_lem)
        (ap₂ state_sound speeds_are decoded ∙ fine_sound speeds ts s good fine)))

    pub stored_length : length bytes ≡ state_length
    stored_length = ap length stored ∙ length-encode s storable.count

    -- another sound state's block takes the place of all of them
    stored_over :
        {next : State} → Fine speeds ts next → next.clock ≤ largest_clock → next.speeds ≡ speeds → stored_by 0 (encode next) bytes ≡ encode next
    stored_over {next} fine-next in-time-next own-next =
        let new : Storable next = fine_storable speeds ts next good rising few fine-next in-time-next (fits_block own-next) in
        let size : length bytes ≤ length (encode next) = omega (arith, stored_length, length-encode next new.count) in
        ap (λ (l : List ℕ). encode next ++ l) (drop_of_length-le bytes size) ∙ append-nil (encode next)

    -- so the questions are those of the state, and so is what follows
    module _ (d : ℕ) (finished : Bool) where
      number_is : pass_number bytes d finished ≡ first_no (pass_questions speeds (timing speeds (plan_in s)) (view_of s) d finished)
      number_is = ask_yes 10 stored_sound (ap₂ (λ (v : List ℕ) (x : State). first_no (pass_questions v (timing v (plan_in x)) (view_of x) d finished)) speeds_are decoded)

      abbrev held : List ℕ
      held = (decode bytes).speeds

      state_is : passed_state held (timing held (plan_in (decode bytes))) (decode bytes) d finished ≡ passed_state speeds τ s d finished
      state_is =
          ap₂ (λ (v : List ℕ) (x : State). passed_state v (timing v (plan_in x)) x d finished) speeds_are decoded
          ∙ ap (λ (l : List Task). passed_state speeds (timing speeds l) s d finished) fine.entries.plan

      hold_is : passed_hold held (timing held (plan_in (decode bytes))) (decode bytes) d finished ≡ passed_hold speeds τ s d finished
      hold_is =
          ap₂ (λ (v : List ℕ) (x : State). passed_hold v (timing v (plan_in x)) x d finished) speeds_are decoded
          ∙ ap (λ (l : List Task). passed_hold speeds (timing speeds l) s d finished) fine.entries.plan

      pub reply_is :
          pass_reply bytes d finished
          ≡ replied_by (first_no (pass_questions speeds (timing speeds (plan_in s)) (view_of s) d finished)) (order_with (view_of (passed_state speeds τ s d finished)) (passed_hold speeds τ s d finished))
      reply_is = ap₂ replied_by number_is (ap₂ order_with (ap view_of state_is) hold_is)

      bytes_are :
          pass_bytes bytes d finished
          ≡ stored_by (first_no (pass_questions speeds (timing speeds (plan_in s)) (view_of s) d finished)) (encode (passed_state speeds τ s d finished)) bytes
      bytes_are = ap₂ (λ (n : ℕ) (x : State). stored_by n (encode x) bytes) number_is state_is

  -- an accepted pass
  module _ (s : State) (fine : Fine speeds ts s) (d : ℕ) (finished : Bool) (ok : Accepted speeds τ s d finished) where
    abbrev next : State
    next = passed_state speeds τ s d finished

    quiet : Quiet τ τ.count s.clock d
    quiet = next_quiet τ good.count_low fits.periods s.clock d ok.within

    -- what is closed after it
    abbrev closing : List Job → List Job
    closing closed = pick finished (latest τ s.clock s.task ∷ closed) closed

    -- a job that finished is that of a task
    task_below : finished ≡ true → s.task < τ.count
    task_below f =
        elim (worked.ordered speeds ts s fine) [
          | idles t l z ↦ absurd (true≢false (sym (ok.runs f) ∙ ap not (eq-eqb s.task 255 t)))
          | runs r ↦ r.below
        ]

    -- the running job's work does not run out before it finishes
    working : (i : ℕ) → i < τ.count → 0 < work_of s i → ((i ≡ s.task) × (finished ≡ true) → ⊥) → 0 < (worked_of speeds s d finished i).work
    working i h w ne =
        elim (tested finished) as (λ b _. finished ≡ b → 0 < (worked_of speeds s d finished i).work) [
          | passed ↦ λ f. subst (λ (x : Rest). 0 < x.work) (sym (worked_other speeds s d finished i (λ e. ne (e, f)))) w
          | failed ↦ λ f. worked_open speeds rising ts good s fine d finished ok f i h w
        ] refl

    module _ (queue : canonical_at τ s.clock ≡ record { clock = s.clock; pending = queue_of τ s.clock (remaining_of s) τ.count }) where
      -- a job that is open when the next arrives would have ticks left in the plain schedule, past its deadline; and in a gap none is open
      never : (i : ℕ) → i < τ.count → (s.clock + d) % τ.period i ≡ 0 → 0 < work_of s i → (i ≡ s.task) × (finished ≡ true)
      never i h z w =
          elim (ℕ_discrete i s.task) [
            | yes e ↦ elim (tested finished) as (λ b _. finished ≡ b → (i ≡ s.task) × (b ≡ true)) [
              | passed ↦ λ f. (e, refl)
              | failed ↦ λ f. absurd (stuck (λ g. true≢false (sym g.1 ∙ f)))
            ] refl
            | no e ↦ absurd (stuck (λ g. e g.0))
          ]
        where
          ahead : Reclaims speeds ts s → ((i ≡ s.task) × (finished ≡ true) → ⊥) → ⊥
          ahead k ne =
              let speed : ℕ = nominal_speed speeds ts in
              let rest : Rest = worked_of speeds s d finished i in
              let some : 0 < time_of speed rest = time_some speed rest (nominal_positive speeds ts good rising) (working i h w ne) in
              let most : time_of speed rest ≤ drained_of τ s d i = stays_ahead speeds rising ts good s fine d finished ok k i h in
              let none : drained_of τ s d i ≡ 0 = nothing_old τ (hyperperiod ts) fits s.clock d (remaining_of s) ok.some quiet queue i h z in
              omega arith

          in_gap : Gap speeds ts s → ((i ≡ s.task) × (finished ≡ true) → ⊥) → ⊥
          in_gap g ne =
              elim (tested finished) as (λ b _. finished ≡ b → ⊥) [
                | passed ↦ λ f. omega (arith, working i h w ne, gap_finished speeds rising ts good s fine d finished ok g f i h)
                | failed ↦ λ f. omega (arith, working i h w ne, gap_arrives speeds rising ts good s fine d finished ok g f arrival i h)
              ] refl
            where
              arrival : next_arrival τ s.clock ≤ d
              arrival = next_soonest τ good.count_low fits.periods s.clock i d h ok.some z

          stuck : ((i ≡ s.task) × (finished ≡ true) → ⊥) → ⊥
          stuck ne = ⊎_elim (λ k. ahead k ne) (λ g. in_gap g ne) (paced speeds ts s fine)

      worst_some : (i : ℕ) → i < τ.count → 0 < (get_or (plan_in s) i no_task).worst
      worst_some i h =
          subst (λ (l : List Task). 0 < (get_or l i no_task).worst) (sym fine.entries.plan) (range_at ts i good.tasks.ranges h).worst_low

      next_held : (closed : List Job) → Held τ s.clock (work_of s) closed → Held τ (s.clock + d) (work_of next) (closing closed)
      next_held closed held =
          held_pass τ s.clock d (work_of s) (work_of next) closed finished s.task ok.some fits.periods quiet
          (λ i h z. subst (λ (x : Rest). 0 < x.work) (sym (new_rest_lem speeds τ s d finished i h z)) (worst_some i h))
          (λ i h z w ne. subst (λ (x : Rest). 0 < x.work) (sym (old_rest speeds τ s d finished i h z)) (working i h w ne))
          never
          held

      next_ended : (closed : List Job) → Ended τ s.clock (work_of s) closed → Ended τ (s.clock + d) (work_of next) (closing closed)
      next_ended closed ended =
          ended_pass τ s.clock d (work_of s) (work_of next) closed finished s.task ok.some fits.periods quiet
          task_below
          (λ f z. ap (λ (x : Rest). x.work)
          (old_rest speeds τ s d finished s.task (task_below f) z ∙ worked_mine speeds s d finished ∙ ap (λ (b : Bool). pick b no_rest left) f))
          (λ i h z w. omega (arith, ap (λ (x : Rest). x.work) (old_rest speeds τ s d finished i h z), worked_less speeds s d finished i))
          ended
        where
          left : Rest
          left = worn (speed_of speeds s.level) d (rest_of s s.task)

      next_queue : canonical_at τ (s.clock + d) ≡ record { clock = s.clock + d; pending = queue_of τ (s.clock + d) (remaining_of next) τ.count }
      next_queue =
          canonical_span τ (hyperperiod ts) fits s.clock d (remaining_of s) ok.some quiet queue
          ∙ (λ k. record { clock = s.clock + d; pending = same k })
        where
          same :
              queue_of τ (s.clock + d) (renewed τ (s.clock + d) (drained_of τ s d)) τ.count ≡ queue_of τ (s.clock + d) (remaining_of next) τ.count
          same =
              queue_of_cong τ (s.clock + d) (renewed τ (s.clock + d) (drained_of τ s d)) (remaining_of next) τ.count
              (λ i h. sym (passed_remaining speeds τ s d finished i h))

      -- where a job arrives, what is open is open in the plain schedule
      arrival_open :
          (k : Job) →
          Arrived τ (s.clock + d) k →
          k.arrival ≡ s.clock + d →
          (j : Job) →
          Arrived τ (s.clock + d) j →
          OpenLatest τ (s.clock + d) (work_of next) j →
          Entered (canonical_at τ (s.clock + d)).pending j
      arrival_open k b e j a o =
          let due : arrives_at τ (s.clock + d) k.task ≡ true =
          eq-eqb ((s.clock + d) % τ.period k.task) 0 (subst (λ (t : ℕ). t % τ.period k.task ≡ 0) e b.multiple) in
          let ahead : Ahead speeds ts next =
          arrival_ahead speeds rising ts good s fine d finished ok (some_yes (arrives_at τ (s.clock + d)) τ.count k.task b.task due) in
          in_plain τ (s.clock + d) (remaining_of next) τ.count next_queue j a.task o.0
          (omega (arith, ahead j.task a.task, time_some (nominal_speed speeds ts) (rest_of next j.task) (nominal_positive speeds ts good rising) o.1))

      next_since : OpenSince τ s.clock (work_of s) → OpenSince τ (s.clock + d) (work_of next)
      next_since =
          since_pass τ s.clock d (work_of s) (work_of next) ok.some fits.periods quiet
          (λ i h z w. worked_was speeds s d finished i (subst (λ (x : Rest). 0 < x.work) (old_rest speeds τ s d finished i h z) w))
          arrival_open

      abbrev hold : ℕ
      hold = passed_hold speeds τ s d finished

      abbrev order : Reply
      order = order_with (view_of next) hold

      abbrev pass : Pass
      pass = record { d = d; finished = finished }

      abbrev booked_next : DispatcherBook → DispatcherBook
      booked_next a = booked speeds ts a pass order

      -- what the book has left of each job after it
      left_next :
          (a : DispatcherBook) →
          a.clock ≡ s.clock →
          a.task ≡ s.task →
          a.level ≡ s.level →
          ((i : ℕ) → i < length ts → a.left i ≡ rest_of s i) →
          (i : ℕ) →
          i < length ts →
          left_after speeds ts a pass i ≡ rest_of next i
      left_next a c t l same i h =
          (λ k. pick (eqb ((c k + d) % τ.period i) 0) (whole (get_or (sym fine.entries.plan k) i no_task))
          (pick (eqb i (t k)) (pick finished no_rest (worn (speed_of speeds (l k)) d (same i h k))) (same i h k)))
          ∙ sym (passed_rest speeds τ s d finished i h)

      -- the tie holds after it
      pub tied_next :
          {a : DispatcherBook} {b : Book} {last : Reply} →
          Tied speeds ts s a b last →
          Tied speeds ts next (booked_next a) (ran τ b pass order) (order_after last order)
      tied_next {a} {b} {last} t =
          let fine-next : Fine speeds ts next = pass_fine speeds rising ts good s fine d finished ok in
          let clock : next.clock ≡ s.clock + d = passed_clock speeds τ s d finished in
          let recorded = order_recorded speeds ts pass next hold (idle_level good fine-next) a in
          let closed : (booked_next a).closed ≡ closing a.closed =
          ap (λ (r : DispatcherBook). r.closed) recorded
          ∙ ap₂ (λ (x y : ℕ). pick finished (latest τ x y ∷ a.closed) a.closed) t.clock t.task in
          record {
            fine = fine-next;
            clock = ap (λ (r : DispatcherBook). r.clock) recorded ∙ ap (λ (x : ℕ). x + d) t.clock ∙ sym clock;
            task = ap (λ (r : DispatcherBook). r.task) recorded;
            level = ap (λ (r : DispatcherBook). r.level) recorded;
            left = λ i h. ap (λ (r : DispatcherBook). r.left i) recorded ∙ left_next a t.clock t.task t.level t.left i h;
            held =
                subst (λ (c : ℕ). Held τ c (work_of next) (booked_next a).closed) (sym clock)
                (subst (λ (l : List Job). Held τ (s.clock + d) (work_of next) l) (sym closed) (next_held a.closed t.held));
            ended =
                subst (λ (c : ℕ). Ended τ c (work_of next) (booked_next a).closed) (sym clock)
                (subst (λ (l : List Job). Ended τ (s.clock + d) (work_of next) l) (sym closed) (next_ended a.closed t.ended));
            plainly =
                order_ran speeds ts pass next hold τ b
                ∙ ap (after τ d) t.plainly
                ∙ sym (after_add τ s.clock d (opened τ))
                ∙ ap (canonical_at τ) (sym clock);
            queue =
                subst (λ (c : ℕ). canonical_at τ c ≡ record { clock = c; pending = queue_of τ c (remaining_of next) τ.count }) (sym clock) next_queue;
            since = subst (λ (c : ℕ). OpenSince τ c (work_of next)) (sym clock) (next_since t.since);
            order_is = order_stands next hold last ∙ ap (order_with (view_of next)) (pass_hold speeds rising ts good s fine d finished ok);
          }

  -- every pass keeps a tie, accepted or refused
  pub kept_pass :
      (p : Pass) (bytes : List ℕ) (a : DispatcherBook) (b : Book) (last : Reply) →
      Kept speeds ts bytes a b last →
      Kept speeds ts (pass_bytes bytes p.d p.finished) (booked speeds ts a p (pass_reply bytes p.d p.finished))
      (ran τ b p (pass_reply bytes p.d p.finished)) (order_after last (pass_reply bytes p.d p.finished))
  kept_pass p bytes a b last k =
      subst (λ (x : List ℕ). Kept speeds ts x (booked speeds ts a p given) (ran τ b p given) (order_after last given))
      (sym (bytes_are k.stored k.in_time k.own k.tied.fine p.d p.finished))
      (subst (λ (r : Reply). Kept speeds ts (stored_by number (encode after_it) bytes) (booked speeds ts a p r) (ran τ b p r) (order_after last r))
      (sym (reply_is k.stored k.in_time k.own k.tied.fine p.d p.finished))
      (by_number number refl))
    where
      given : Reply
      given = pass_reply bytes p.d p.finished

      number : ℕ
      number = first_no (pass_questions speeds (timing speeds (plan_in k.state)) (view_of k.state) p.d p.finished)

      after_it : State
      after_it = passed_state speeds τ k.state p.d p.finished

      chosen : Reply
      chosen = order_with (view_of after_it) (passed_hold speeds τ k.state p.d p.finished)

      by_number :
          (n : ℕ) →
          number ≡ n →
          Kept speeds ts (stored_by n (encode after_it) bytes) (booked speeds ts a p (replied_by n chosen)) (ran τ b p (replied_by n chosen))
          (order_after last (replied_by n chosen))
      by_number zero e =
          let asked = pass_accepted speeds k.state p.d p.finished e in
          let ok : Accepted speeds τ k.state p.d p.finished =
          subst (λ (l : List Task). Accepted speeds (timing speeds l) k.state p.d p.finished) k.tied.fine.entries.plan asked.0 in
          let in-time-next : after_it.clock ≤ largest_clock =
          subst (λ (c : ℕ). c ≤ largest_clock) (sym (passed_clock speeds τ k.state p.d p.finished)) asked.1 in
          let own-next : after_it.speeds ≡ speeds = passed_speeds speeds τ k.state p.d p.finished ∙ k.own in
          let tied-after = tied_next k.state k.tied.fine p.d p.finished ok k.tied.queue k.tied in
          record {
            state = after_it;
            tied = tied-after;
            stored = stored_over k.stored k.in_time k.own k.tied.fine tied-after.fine in-time-next own-next;
            in_time = in-time-next;
            own = own-next;
          }
      by_number (suc n) e = k
