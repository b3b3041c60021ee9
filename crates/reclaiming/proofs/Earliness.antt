-- The paper's Theorem 1 of every open job of a run, and the full earliness of every order that is newly chosen in it.
-- Assumes nothing.
use Prim.Native.Nat.{ℕ, zero, suc, ◌+◌, ◌-◌, ◌≤◌, ◌<◌}
use mathlib.Core.Path.{◌≡◌, refl, sym, ap, subst, ◌∙◌}
use mathlib.Core.Bool.{Bool, true, true≢false}
use mathlib.Core.List.{List, [], ◌∷◌}
use mathlib.Core.Logic.{inl, inr, ⊎_elim}
use native.Mathlib.Omega.{arith}
use lib.Dec.{eqb}
use lib.ListN.{length, get_or, take}
use Rattle.arith.specs.Choice.{pick}
use Rattle.arith.specs.Asking.{first_no}
use Rattle.arith.proofs.Tests.{passed, failed, tested}
use Rattle.plan.specs.declared.Task.{Task}
use Rattle.plan.specs.declared.Rest.{Rest}
use Rattle.plan.specs.Times.{time_of}
use Rattle.plan.specs.Levels.{Rising, nominal}
use Rattle.plan.specs.LevelBlocks.{speeds_in}
use Rattle.plan.specs.Blocks.{no_task, tasks_in}
use Rattle.plan.proofs.TimeLaws.{time_some}
use Rattle.plan.proofs.LevelBlockLaws.{FineTable}
use Rattle.plan.proofs.Facts.{FineTasks, FineList, floor_at}
use Rattle.schedule.specs.PlainSchedule.{Timing, Pending, Book, left_in, opened}
use Rattle.schedule.specs.Feasibility.{In}
use Rattle.schedule.proofs.QueueLaws.{in_queue_of}
use Rattle.reclaiming.specs.declared.Entry.{Entry}
use Rattle.reclaiming.specs.Allotments.{timing}
use Rattle.reclaiming.specs.Orders.{View, next_arrival, plain_allowance, is_lone, with_gap, allowance, open_jobs, lowest_level, hold_of, order_for, order_with, choose_order, new_order}
use Rattle.reclaiming.specs.Replies.{Reply, run_task, stay_idle, replied_by, is_order}
use Rattle.reclaiming.specs.Passes.{chooses_anew, pass_questions, Pass}
use Rattle.reclaiming.specs.Books.{DispatcherBook, unopened_book, booked_all, ran_all}
use Rattle.reclaiming.specs.Ideal.{view_of_books, first_view, ticked_view, ideal_order, ideal_reply}
use Rattle.reclaiming.specs.Earliness.{time_at_nominal, earliness, full_time}
use Rattle.reclaiming.specs.StateBlock.{State, rest_in, rest_of, remaining_of, work_of}
use Rattle.reclaiming.specs.States.{view_of}
use Rattle.reclaiming.specs.Calls.{pass_reply, start_reply}
use Rattle.reclaiming.specs.Run.{trace}
use Rattle.reclaiming.specs.Promises.{answer_at, AheadOfPlain, AllAhead, Theorem1, FullEarliness, TakesEarliness, WithFullEarliness}
use Rattle.reclaiming.proofs.Fine.{Ahead, Accepted, nominal_speed}
use Rattle.reclaiming.proofs.Replies.{not_refused}
use Rattle.reclaiming.proofs.Plans.{nominal_positive}
use Rattle.reclaiming.proofs.Soundness.{pass_accepted}
use Rattle.reclaiming.proofs.OrderFacts.{head_below}
use Rattle.reclaiming.proofs.Lowest.{lowest_floor, lowest_most, lowest_meets, lowest_least}
use Rattle.reclaiming.proofs.Lone.{gap_least}
use Rattle.reclaiming.proofs.Allowances.{allowance_is}
use Rattle.reclaiming.proofs.PassSound.{anew_ahead}
use Rattle.reclaiming.proofs.Books.{OpenLatest}
use Rattle.reclaiming.proofs.Runs.{Tied, Kept, kept_pass}
use Rattle.reclaiming.proofs.Demand.{table, good, entry, plain_is, open_latest, open_gap, tied_start, kept_start, after_run}
use Rattle.reclaiming.proofs.Ideal.{NonePast, ordered_left, past_booked, past_first, view_is, asked, ticked_is, same_reply, first_is}

module _ (speeds : List ℕ) (rising : Rising speeds) (ts : List Task) where
  abbrev τ : Timing
  τ = timing speeds ts

  -- every task is ahead at a moment
  abbrev AheadAt : View → Type 0
  AheadAt v = (i : ℕ) → i < length ts → time_at_nominal speeds ts v i ≤ v.remaining i

  -- so an order that is chosen there takes the full earliness
  module _ (plan : FineTasks speeds ts) (v : View) (floors : v.floor ≡ (λ i. (get_or ts i no_task).floor)) (ahead : AheadAt v) where
    -- where task x has a job, the allowance is its time at nominal and the earliness
    exact_at : (x : ℕ) → x < length ts → plain_allowance τ v x ≡ time_at_nominal speeds ts v x + earliness speeds ts v x
    exact_at x h = omega (arith, ahead x h, allowance_is τ v.clock v.remaining (length ts) x h)

    full_at : (x : ℕ) → x < length ts → allowance τ v x ≡ full_time speeds ts v x
    full_at x h = ap (λ (t : ℕ). with_gap (is_lone τ v x) t (next_arrival τ v.clock)) (exact_at x h)

    full : (x : ℕ) → x < length ts → v.floor x < length speeds → FullEarliness speeds ts v x (lowest_level speeds (v.floor x) (v.rest x) (allowance τ v x))
    full x h loaded =
        subst (λ (t : ℕ). FullEarliness speeds ts v x (lowest_level speeds (v.floor x) (v.rest x) t)) (sym (full_at x h))
        (record {
          ahead = ahead x h;
          exact = exact_at x h;
          meets = lowest_meets speeds (v.floor x) (v.rest x) time loaded within;
          floor = lowest_floor speeds (v.floor x) (v.rest x) time;
          lowest = lowest_least speeds (v.floor x) (v.rest x) time within;
        })
      where
        time : ℕ
        time = full_time speeds ts v x

        met : time_at_nominal speeds ts v x ≤ time
        met = omega (arith, gap_least (is_lone τ v x) (time_at_nominal speeds ts v x + earliness speeds ts v x) (next_arrival τ v.clock))

        within : lowest_level speeds (v.floor x) (v.rest x) time < length speeds
        within = omega (arith, loaded, plan.admitted, lowest_most speeds (v.floor x) (v.rest x) time rising loaded (nominal speeds ts) plan.admitted met)

    takes : TakesEarliness speeds ts v (new_order speeds τ v)
    takes = go (open_jobs τ v) refl (hold_of speeds τ (choose_order speeds τ v))
      where
        go : (q : List Pending) → open_jobs τ v ≡ q → (hold : ℕ) → TakesEarliness speeds ts v (order_with (order_for speeds τ v q) hold)
        go [] e hold = tt
        go (f ∷ q) e hold =
            let x : ℕ = f.job.task in
            let below : x < length ts = head_below τ v.clock (λ i. (v.rest i).work) (length ts) f q e in
            elim (tested (eqb x 255))
            as (λ b _.
            TakesEarliness speeds ts v
            (pick b (stay_idle hold) (run_task x (lowest_level speeds (v.floor x) (v.rest x) (allowance τ v x)) hold)))
            [ passed ↦ tt | failed ↦ full x below (subst (λ (g : ℕ → ℕ). g x < length speeds) (sym floors) (floor_at (length speeds) ts x plan.floors below)) ]

-- a plan that was accepted, over a table of speeds
module _ (speeds : List ℕ) (table : FineTable speeds) (ts : List Task) (good : FineList speeds (length ts) ts) where
  -- Theorem 1, of a state that is tied to the books
  theorem_tied :
      {s : State} {a : DispatcherBook} {b : Book} {last : Reply} →
      Tied speeds ts s a b last →
      AllAhead speeds ts a b
  theorem_tied {s} {a} {b} t j o = ⊎_elim (λ h. inl (ahead h)) (λ g. inr (open_gap speeds table ts good t g j o)) t.fine.pace
    where
      below : j.task < length ts
      below = o.arrived.task

      since : OpenLatest (timing speeds ts) s.clock (work_of s) j
      since = open_latest speeds table ts good t j o

      ahead : Ahead speeds ts s → AheadOfPlain speeds ts a b j
      ahead h = record {
        left = remaining_of s j.task;
        entry =
            subst (λ (x : Book). In (record { job = j; remaining = remaining_of s j.task }) x.pending) (sym (plain_is speeds table ts good t))
            (in_queue_of (timing speeds ts) s.clock (remaining_of s) (length ts) (record { job = j; remaining = remaining_of s j.task })
            (record {
              number = j.task;
              below = below;
              some =
                  omega (
                    arith,
                    h j.task below,
                    time_some (nominal_speed speeds ts) (rest_of s j.task) (nominal_positive speeds ts good table.rising) since.1,
                  );
              is = λ k. record { job = since.0 k; remaining = remaining_of s j.task };
            }));
        ahead = subst (λ (r : Rest). time_of (nominal_speed speeds ts) r ≤ remaining_of s j.task) (sym (t.left j.task below)) (h j.task below);
      }

  -- an order newly chosen by a pass
  takes_pass :
      (p : Pass) {bytes : List ℕ} {a : DispatcherBook} {b : Book} {last : Reply} →
      Kept speeds ts bytes a b last →
      NonePast speeds ts a →
      is_order (pass_reply bytes p.d p.finished) ≡ true →
      chooses_anew (timing speeds ts) (view_of_books ts a b) p.d p.finished ≡ true →
      TakesEarliness speeds ts (ticked_view speeds ts a b p) (pass_reply bytes p.d p.finished)
  takes_pass p {bytes} {a} {b} {last} k past e anew =
      subst (TakesEarliness speeds ts (ticked_view speeds ts a b p)) (sym chosen)
      (takes speeds table.rising ts good.tasks (ticked_view speeds ts a b p) refl
      (subst (AheadAt speeds table.rising ts) (ticked_is speeds table ts good t past p ok) (anew_ahead speeds table.rising ts good s t.fine p.d p.finished ok renews)))
    where
      s : State
      s = k.state

      t : Tied speeds ts k.state a b last
      t = k.tied

      number : ℕ
      number = first_no (pass_questions speeds (timing speeds ts) (view_of_books ts a b) p.d p.finished)

      replied : pass_reply bytes p.d p.finished ≡ ideal_reply speeds ts a b p
      replied = same_reply speeds table ts good k past p

      none : number ≡ 0
      none = not_refused number (ideal_order speeds ts a b p) (sym (ap is_order replied) ∙ e)

      chosen : pass_reply bytes p.d p.finished ≡ new_order speeds (timing speeds ts) (ticked_view speeds ts a b p)
      chosen =
          replied
          ∙ ap (λ (n : ℕ). replied_by n (ideal_order speeds ts a b p)) none
          ∙ ap (λ (x : Bool). pick x (new_order speeds (timing speeds ts) (ticked_view speeds ts a b p)) (order_with (ticked_view speeds ts a b p) (hold_of speeds (timing speeds ts) (view_of_books ts a b) - p.d))) anew

      ok : Accepted speeds (timing speeds ts) s p.d p.finished
      ok =
          subst (λ (l : List Task). Accepted speeds (timing speeds l) s p.d p.finished) t.fine.entries.plan
          (pass_accepted speeds s p.d p.finished (asked speeds table ts good t past p ∙ none)).0

      renews : chooses_anew (timing speeds ts) (view_of s) p.d p.finished ≡ true
      renews = subst (λ (v : View). chooses_anew (timing speeds ts) v p.d p.finished ≡ true) (sym (view_is speeds ts t past)) anew

  takes_run :
      (passes : List Pass) (n : ℕ) {bytes : List ℕ} {a : DispatcherBook} {b : Book} {last : Reply} →
      Kept speeds ts bytes a b last →
      NonePast speeds ts a →
      is_order (answer_at (trace bytes passes) n).reply ≡ true →
      chooses_anew (timing speeds ts)
      (view_of_books ts (booked_all speeds ts a (take n (trace bytes passes))) (ran_all (timing speeds ts) b (take n (trace bytes passes))))
      (answer_at (trace bytes passes) n).pass.d (answer_at (trace bytes passes) n).pass.finished
      ≡ true →
      TakesEarliness speeds ts
      (ticked_view speeds ts (booked_all speeds ts a (take n (trace bytes passes))) (ran_all (timing speeds ts) b (take n (trace bytes passes)))
      (answer_at (trace bytes passes) n).pass)
      (answer_at (trace bytes passes) n).reply
  takes_run [] n k past e anew = absurd (true≢false (sym e))
  takes_run (p ∷ ps) zero k past e anew = takes_pass p k past e anew
  takes_run (p ∷ ps) (suc n) {bytes} {a} {b} {last} k past e anew =
      takes_run ps n (kept_pass speeds table ts good p bytes a b last k)
      (past_booked speeds ts a p (pass_reply bytes p.d p.finished) past) e anew

pub theorem_1 : Theorem1
theorem_1 levels block pairs buffer passes ok =
    theorem_tied (speeds_in levels) (table levels block pairs buffer ok) (tasks_in block) (good levels block pairs buffer ok) (after_run levels block pairs buffer passes ok).tied

pub with_full_earliness : WithFullEarliness
with_full_earliness levels block pairs buffer passes ok = record {
  at_first = subst (TakesEarliness speeds ts begun) (sym (first_is levels block pairs buffer ok)) (takes speeds rise ts plan.tasks begun refl ahead_begun);
  at_pass = λ n e anew.
      takes_run speeds (table levels block pairs buffer ok) ts plan passes n (kept_start levels block pairs buffer ok)
      (past_first levels block pairs buffer ok) e anew;
}
  where
    speeds : List ℕ
    speeds = speeds_in levels

    ts : List Task
    ts = tasks_in block

    rise : Rising speeds
    rise = (table levels block pairs buffer ok).rising

    begun : View
    begun = first_view speeds ts

    plan : FineList speeds (length ts) ts
    plan = good levels block pairs buffer ok

    first : Reply
    first = start_reply levels block pairs (length buffer)

    -- at the start every job is whole, and has its whole allotment
    ahead_begun : AheadAt speeds rise ts begun
    ahead_begun =
        subst (λ (f : ℕ → Rest). (i : ℕ) → i < length ts → time_of (nominal_speed speeds ts) (f i) ≤ left_in i (opened (timing speeds ts)).pending)
        (ordered_left (unopened_book ts) first)
        (subst (AheadAt speeds rise ts) (view_is speeds ts (tied_start levels block pairs buffer ok) (past_first levels block pairs buffer ok))
        (λ i h.
        subst (λ (e : Entry). time_of (nominal_speed speeds ts) (rest_in e) ≤ e.remaining) (sym (entry levels block pairs buffer ok i h)) (omega arith)))
