-- A started state is sound, an accepted pass keeps it so, and the hold that stands is always accepted.
-- Assumes nothing.
use Prim.Native.Nat.{ℕ, ◌+◌, ◌-◌, ◌%◌, ◌≤◌, ◌<◌, min, max}
use mathlib.Core.Path.{◌≡◌, refl, sym, ap, ap₂, subst, ◌∙◌}
use mathlib.Core.Bool.{Bool, true, false, true≢false}
use mathlib.Core.List.{List, [], ◌∷◌, map}
use mathlib.Core.Logic.{◌⊎◌, inl, inr, ⊎_elim}
use native.Mathlib.Decide.{dec_le}
use native.Mathlib.Omega.{arith}
use borrow.Author.Tests.{le-leb, eq-eqb, eqb-false, not-true}
use lib.Dec.{eqb}
use lib.ListN.{length, get_or, length-map, get_or-map}
use lib.Seq.{ext_get_or}
use Rattle.arith.specs.Choice.{pick, both}
use Rattle.arith.specs.Sum.{sum_to}
use Rattle.arith.specs.Ranges.{list_to, some_to}
use Rattle.arith.proofs.Tests.{passed, failed, tested, both_left, both_true, neither_first, neither_second, either_second}
use Rattle.arith.proofs.Sums.{sum_to_eq}
use Rattle.arith.proofs.RangeLaws.{length-list_to, get_d_list_to, no_none}
use Rattle.arith.proofs.QuestionLaws.{within_true}
use Rattle.plan.specs.declared.Task.{Task}
use Rattle.plan.specs.declared.Rest.{Rest}
use Rattle.plan.specs.Times.{whole, no_rest, Within, time_of, worn}
use Rattle.plan.specs.Levels.{Rising, speed_of, nominal}
use Rattle.plan.specs.Blocks.{no_task}
use Rattle.plan.proofs.Facts.{FineTasks, FineList, range_at, floor_at}
use Rattle.plan.proofs.TimeLaws.{within_self, within_trans}
use Rattle.plan.proofs.LevelLaws.{Positive, range_positive}
use Rattle.schedule.specs.PlainSchedule.{Timing, Job, Pending, more_urgent, latest}
use Rattle.schedule.proofs.Urgency.{MoreUrgent}
use Rattle.schedule.proofs.Drain.{latest_kept}
use Rattle.reclaiming.specs.declared.Entry.{Entry}
use Rattle.reclaiming.specs.Allotments.{timing}
use Rattle.reclaiming.specs.Orders.{next_arrival, plain_allowance, allowance, open_jobs, lowest_level, running_time, hold_of, order_for, running}
use Rattle.reclaiming.specs.Passes.{arrives_at, chooses_anew}
use Rattle.reclaiming.specs.StateBlock.{State, no_entry, task_of, floor_of, work_of, remaining_of, rest_in, rest_of, plan_in}
use Rattle.reclaiming.specs.States.{put_order, chosen_state, new_entry, state_with, start_state, drained_of, worked_of, aged_entry, entry_after, moved_state, passed_state, passed_hold, view_of, take_order}
use Rattle.reclaiming.specs.Questions.{order_sound}
use Rattle.reclaiming.proofs.Fine.{nominal_speed, FineEntries, fine_floor, Ahead, Gap, Fine, Accepted}
use Rattle.reclaiming.proofs.Lowest.{lowest_floor, lowest_most, lowest_meets}
use Rattle.reclaiming.proofs.PassedStates.{passed_entries}
use Rattle.reclaiming.proofs.OrderFacts.{Runs, Ordered, idles, runs, facts_order, head_below}
use Rattle.reclaiming.proofs.NextArrival.{next_positive, next_quiet, before_next, not_next, next_on}
use Rattle.reclaiming.proofs.Allowances.{allowed, allowance_is}
use Rattle.reclaiming.proofs.Worked.{worked_mine, worked_within, worked_less, worked_closed, worked_was, worked_open, drained_less, drained_allowance}
use Rattle.reclaiming.proofs.Worked.{runs_running, ordered, time_positive, runs_on, worked_none}
use Rattle.reclaiming.proofs.Worked.{Reclaims, paced, stays_ahead, gap_finished, gap_arrives}
use Rattle.reclaiming.proofs.Lone.{closed_lone, allowance_least, allowance_gap}

-- the order that is chosen where every task is ahead
module _ (speeds : List ℕ) (rising : Rising speeds) (ts : List Task) (plan : FineTasks speeds ts) (s : State) (fine : FineEntries speeds ts s)
    (ahead : Ahead speeds ts s) where
  -- the level for task x
  abbrev level_for : ℕ → ℕ
  level_for x = lowest_level speeds (floor_of s x) (rest_of s x) (allowance (timing speeds ts) (view_of s) x)

  floor_loaded_lem : (x : ℕ) → x < length ts → floor_of s x < length speeds
  floor_loaded_lem x h = omega (arith, fine_floor fine x, floor_at (length speeds) ts x plan.floors h)

  -- the nominal level meets an allowance, so the lowest from the floor on that does is no higher, or it is the floor
  chosen_most : (x : ℕ) → x < length ts → level_for x ≤ max (nominal speeds ts) (floor_of s x)
  chosen_most x h =
      lowest_most speeds (floor_of s x) (rest_of s x) (allowance (timing speeds ts) (view_of s) x) rising (floor_loaded_lem x h) (nominal speeds ts) plan.admitted
      (omega (
        arith,
        ahead x h,
        allowance_is (timing speeds ts) s.clock (remaining_of s) (length ts) x h,
        allowance_least (timing speeds ts) s x,
      ))

  order_for_lem : (q : List Pending) → open_jobs (timing speeds ts) (view_of s) ≡ q →
      order_sound speeds (timing speeds ts) (nominal speeds ts) (view_of (take_order s (order_for speeds (timing speeds ts) (view_of s) q)))
      (open_jobs (timing speeds ts) (view_of (take_order s (order_for speeds (timing speeds ts) (view_of s) q))))
      ≡ true
  order_for_lem [] e =
      subst (λ (l : List Pending). order_sound speeds (timing speeds ts) (nominal speeds ts) (view_of (put_order s 255 0)) l ≡ true) (sym e) refl
  order_for_lem (f ∷ q) e =
      let x : ℕ = f.job.task in
      let floor : ℕ = floor_of s x in
      let time : ℕ = allowance (timing speeds ts) (view_of s) x in
      let h : x < length ts = head_below (timing speeds ts) s.clock (work_of s) (length ts) f q e in
      let most : level_for x ≤ max (nominal speeds ts) floor = chosen_most x h in
      subst (λ (k : List Pending). order_sound speeds (timing speeds ts) (nominal speeds ts) (view_of (put_order s x (level_for x))) k ≡ true) (sym e)
      (both_true (eq-eqb x x refl)
      (both_true (within_true floor (max (nominal speeds ts) floor) (level_for x) (lowest_floor speeds floor (rest_of s x) time) most)
      (le-leb (time_of (speed_of speeds (level_for x)) (rest_of s x)) time
      (lowest_meets speeds floor (rest_of s x) time (floor_loaded_lem x h) (omega (arith, most, floor_loaded_lem x h, plan.admitted))))))

  pub order_chosen :
      order_sound speeds (timing speeds ts) (nominal speeds ts) (view_of (chosen_state speeds (timing speeds ts) s))
      (open_jobs (timing speeds ts) (view_of (chosen_state speeds (timing speeds ts) s)))
      ≡ true
  order_chosen = order_for_lem (open_jobs (timing speeds ts) (view_of s)) refl

-- another order leaves the entries as they are
with_order_lem : {speeds : List ℕ} {ts : List Task} {s : State} (task level : ℕ) → FineEntries speeds ts s → FineEntries speeds ts (put_order s task level)
with_order_lem task level f = record { plan = f.plan; left = f.left; closed = f.closed; remaining = f.remaining; total = f.total }

-- so choosing an order makes a sound state, where every task is ahead
pub fine_chosen :
    (speeds : List ℕ) →
    Rising speeds →
    (ts : List Task) →
    FineTasks speeds ts →
    (s : State) →
    FineEntries speeds ts s →
    Ahead speeds ts s →
    Fine speeds ts (chosen_state speeds (timing speeds ts) s)
fine_chosen speeds rising ts plan s f ahead = go (open_jobs (timing speeds ts) (view_of s)) refl
  where
    go : (q : List Pending) → open_jobs (timing speeds ts) (view_of s) ≡ q → Fine speeds ts (take_order s (order_for speeds (timing speeds ts) (view_of s) q))
    go [] e = record { entries = with_order_lem 255 0 f; order = order_for_lem speeds rising ts plan s f ahead [] e; pace = inl ahead }
    go (g ∷ q) e = record {
      entries = with_order_lem g.job.task (level_for speeds rising ts plan s f ahead g.job.task) f;
      order = order_for_lem speeds rising ts plan s f ahead (g ∷ q) e;
      pace = inl ahead;
    }

-- the plan in a list of entries
plan_list_to : (ts : List Task) (f : ℕ → Entry) → ((i : ℕ) → i < length ts → task_of (f i) ≡ get_or ts i no_task) → map task_of (list_to (length ts) f) ≡ ts
plan_list_to ts f h =
    ext_get_or no_task (map task_of (list_to (length ts) f)) ts size
    (λ i k. let l : i < length ts = omega (arith, size) in
    get_or-map task_of (list_to (length ts) f) i no_entry ∙ ap task_of (get_d_list_to (length ts) f i no_entry l) ∙ h i l)
  where
    size : length (map task_of (list_to (length ts) f)) ≡ length ts
    size = length-map (list_to (length ts) f) task_of ∙ length-list_to (length ts) f

pub start_fine : (speeds : List ℕ) (ts : List Task) → FineList speeds (length ts) ts → Rising speeds → Fine speeds ts (start_state speeds ts)
start_fine speeds ts plan rising =
    fine_chosen speeds rising ts plan.tasks
    (state_with 0 255 0 (list_to (length ts) new) speeds)
    (record {
      plan = plan_list_to ts new (λ i h. refl);
      left = λ i h. at (λ e. Within (rest_in e) (whole (get_or ts i no_task))) i h (within_self (whole (get_or ts i no_task)));
      closed = λ i h. at (λ e. e.work ≡ 0 → e.unspent ≡ 0) i h (λ e. absurd (omega (arith, (range_at ts i plan.tasks.ranges h).worst_low)));
      remaining = λ i h. at (λ e. e.remaining ≤ (timing speeds ts).allotment i) i h (omega arith);
      total = refl;
    })
    (λ i h. at (λ e. time_of (nominal_speed speeds ts) (rest_in e) ≤ e.remaining) i h (omega arith))
  where
    new : ℕ → Entry
    new = new_entry (timing speeds ts) ts

    at : (P : Entry → Type 0) (i : ℕ) → i < length ts → P (new i) → P (get_or (list_to (length ts) new) i no_entry)
    at P i h p = subst P (sym (get_d_list_to (length ts) new i no_entry h)) p

-- a plan that was accepted, over a rising table of speeds
module _ (speeds : List ℕ) (rising : Rising speeds) (ts : List Task) (plan : FineList speeds (length ts) ts) where
  abbrev τ : Timing
  τ = timing speeds ts

  periods : Positive ts
  periods = range_positive ts plan.tasks.ranges

  -- an accepted pass from a sound state
  module _ (s : State) (fine : Fine speeds ts s) (d : ℕ) (finished : Bool) (pass : Accepted speeds τ s d finished) where
    -- the state once the ticks are gone, whether a job arrives then, and whether an order is chosen anew
    abbrev moved : State
    moved = moved_state speeds τ s d finished

    abbrev arrives : Bool
    arrives = some_to (length ts) (arrives_at τ (s.clock + d))

    abbrev anew : Bool
    anew = chooses_anew τ (view_of s) d finished

    -- a task's entry in that state, and what it is where no job of the task arrives
    abbrev entry : ℕ → Entry
    entry = entry_after speeds τ s d finished

    abbrev kept : ℕ → Entry
    kept = aged_entry speeds τ s d finished

    -- each entry is a new one or that
    after_is : (P : Entry → Type 0) (i : ℕ) → P (new_entry τ ts i) → P (kept i) → P (entry i)
    after_is P i new old =
        elim (tested (arrives_at τ (s.clock + d) i)) as (λ b _. P (pick b (new_entry τ (plan_in s) i) (kept i)))
        [ passed ↦ subst (λ (l : List Task). P (new_entry τ l i)) (sym fine.entries.plan) new | failed ↦ old ]

    moved_is :
        (P : Entry → Type 0) (i : ℕ) →
        i < length ts →
        P (new_entry τ ts i) →
        P (kept i) →
        P (get_or (list_to (length ts) entry) i no_entry)
    moved_is P i h new old =
        subst P (sym (get_d_list_to (length ts) entry i no_entry h)) (after_is P i new old)

    pub moved_fine : FineEntries speeds ts moved
    moved_fine = record {
      plan = plan_list_to ts entry (λ i h. after_is (λ e. task_of e ≡ get_or ts i no_task) i refl (same_task i));
      left = λ i h.
          moved_is (λ e. Within (rest_in e) (whole (get_or ts i no_task))) i h (within_self (whole (get_or ts i no_task)))
          (within_trans (worked_within speeds s d finished i) (fine.entries.left i h));
      closed = λ i h.
          moved_is (λ e. e.work ≡ 0 → e.unspent ≡ 0) i h
          (λ e. absurd (omega (arith, (range_at ts i plan.tasks.ranges h).worst_low)))
          (worked_closed speeds rising ts plan s fine d finished pass i h);
      remaining = λ i h.
          moved_is (λ e. e.remaining ≤ τ.allotment i) i h (omega arith)
          (omega (arith, drained_less τ s d i h, fine.entries.remaining i h));
      total = refl;
    }
      where
        same_task : (i : ℕ) → task_of (kept i) ≡ get_or ts i no_task
        same_task i =
            sym (get_or-map task_of s.entries i no_entry) ∙ ap (λ (l : List Task). get_or l i no_task) fine.entries.plan

    -- every task is ahead in it, if every job that goes on is
    goes_ahead : ((i : ℕ) → i < length ts → time_of (nominal_speed speeds ts) (worked_of speeds s d finished i) ≤ drained_of τ s d i) → Ahead speeds ts moved
    goes_ahead h i k = moved_is (λ e. time_of (nominal_speed speeds ts) (rest_in e) ≤ e.remaining) i k (omega arith) (h i k)

    -- and so it is where nothing is left of any
    none_left : ((i : ℕ) → i < length ts → (worked_of speeds s d finished i).work ≡ 0) → Ahead speeds ts moved
    none_left z = goes_ahead (λ i h. omega (arith, worked_none speeds rising ts plan s fine d finished pass i h (z i h)))

    -- where an order is chosen anew every task is ahead, after a gap too: the lone job finished, or there was none
    pub anew_ahead : anew ≡ true → Ahead speeds ts moved
    anew_ahead e = ⊎_elim (λ k. goes_ahead (stays_ahead speeds rising ts plan s fine d finished pass k)) in_gap (paced speeds ts s fine)
      where
        arrival : finished ≡ false → next_arrival τ s.clock ≤ d
        arrival f =
            elim (dec_le (next_arrival τ s.clock) d) [
              | yes h ↦ h
              | no h ↦
                  let quiet : arrives ≡ false = before_next τ plan.count_low periods s.clock d pass.some (omega arith) in
                  absurd (true≢false (sym e ∙ ap₂ (λ (x y : Bool). pick x true y) f quiet))
            ]

        in_gap : Gap speeds ts s → Ahead speeds ts moved
        in_gap g =
            elim (tested finished) as (λ b _. finished ≡ b → Ahead speeds ts moved) [
              | passed ↦ λ f. none_left (gap_finished speeds rising ts plan s fine d finished pass g f)
              | failed ↦ λ f. none_left (gap_arrives speeds rising ts plan s fine d finished pass g f (arrival f))
            ] refl

    -- where nothing arrives and the running job goes on, the order stays
    module _ (goes : finished ≡ false) (none : arrives ≡ false) where
      kept_at : (i : ℕ) → i < length ts → get_or (list_to (length ts) entry) i no_entry ≡ kept i
      kept_at i h =
          get_d_list_to (length ts) entry i no_entry h
          ∙ ap (λ (b : Bool). pick b (new_entry τ (plan_in s) i) (kept i))
          (no_none (arrives_at τ (s.clock + d)) (length ts) none i h)

      job_kept : (i : ℕ) → i < length ts → latest τ (s.clock + d) i ≡ latest τ s.clock i
      job_kept i h =
          sym
          (latest_kept τ (length ts) s.clock d i h (periods i h)
          (next_quiet τ plan.count_low periods s.clock d pass.within)
          (eqb-false ((s.clock + d) % τ.period i) 0 (no_none (arrives_at τ (s.clock + d)) (length ts) none i h)))

      -- 01's allowance after the pass, from what the pass left
      allowance_kept :
          (x : ℕ) → x < length ts → plain_allowance τ (view_of moved) x ≡ sum_to (length ts) (allowed τ s.clock (drained_of τ s d) x)
      allowance_kept x h =
          sum_to_eq (length ts) (allowed τ (s.clock + d) (remaining_of moved) x) (allowed τ s.clock (drained_of τ s d) x)
          (λ j k m. pick {A = ℕ} (more_urgent τ (job_kept x h m) (job_kept j k m)) 0 (kept_at j k m).remaining)

      -- the running job's time falls by d
      pub time_kept : Runs speeds τ (nominal speeds ts) s → running_time speeds (view_of moved) ≡ running_time speeds (view_of s) - d
      time_kept r =
          ap (λ (e : Entry). time_of (speed_of speeds s.level) (rest_in e)) (kept_at s.task r.below)
          ∙ ap (time_of (speed_of speeds s.level))
          (worked_mine speeds s d finished ∙ ap (λ (b : Bool). pick {A = Rest} b no_rest (worn (speed_of speeds s.level) d (rest_of s s.task))) goes)
          ∙ runs_on speeds rising ts plan s fine d finished pass r

      pub next_kept : next_arrival τ (s.clock + d) ≡ next_arrival τ s.clock - d
      next_kept =
          next_on τ plan.count_low periods s.clock d (not_next τ plan.count_low periods s.clock d pass.within none)

      work_kept : (i : ℕ) → i < length ts → work_of moved i ≡ (worked_of speeds s d finished i).work
      work_kept i h = ap (λ (e : Entry). e.work) (kept_at i h)

      -- a lone job stays alone, and its time and the ticks to the next arrival fall alike
      gap_kept : Runs speeds τ (nominal speeds ts) s → Gap speeds ts s → Gap speeds ts moved
      gap_kept r g = record {
        others = λ i h x. omega (arith, work_kept i h, worked_less speeds s d finished i, g.others i h x);
        time = omega (arith, time_kept r, next_kept, g.time);
      }

      -- the order still meets the allowance, each part of which falls by at most d
      meets_kept : Runs speeds τ (nominal speeds ts) s → running_time speeds (view_of moved) ≤ allowance τ (view_of moved) s.task
      meets_kept r = ⊎_elim by_plan by_gap (paced speeds ts s fine)
        where
          by_plan : Reclaims speeds ts s → running_time speeds (view_of moved) ≤ allowance τ (view_of moved) s.task
          by_plan k =
              omega (
                arith,
                time_kept r,
                allowance_kept s.task r.below,
                drained_allowance τ s d s.task,
                k.meets r,
                allowance_least τ moved s.task,
              )

          by_gap : Gap speeds ts s → running_time speeds (view_of moved) ≤ allowance τ (view_of moved) s.task
          by_gap g =
              let after : Gap speeds ts moved = gap_kept r g in
              omega (arith, after.time, allowance_gap τ moved s.task (closed_lone τ moved s.task after.others))

      -- and the state keeps up
      pace_kept : Ahead speeds ts moved ⊎ Gap speeds ts moved
      pace_kept =
          ⊎_elim (λ k. inl (goes_ahead (stays_ahead speeds rising ts plan s fine d finished pass k))) (λ g. in_gap g (ordered speeds ts s fine))
          (paced speeds ts s fine)
        where
          in_gap : Gap speeds ts s → Ordered speeds τ (nominal speeds ts) s → Ahead speeds ts moved ⊎ Gap speeds ts moved
          in_gap g (idles t l z) = inl (none_left (λ i h. omega (arith, worked_less speeds s d finished i, z i h)))
          in_gap g (runs r) = inr (gap_kept r g)

      pub order_kept : Ordered speeds τ (nominal speeds ts) moved
      order_kept = go (ordered speeds ts s fine)
        where
          go : Ordered speeds τ (nominal speeds ts) s → Ordered speeds τ (nominal speeds ts) moved
          go (idles t l z) = idles t l (λ i h. omega (arith, work_kept i h, worked_less speeds s d finished i, z i h))
          go (runs r) =
              runs
              (record {
                below = r.below;
                work = rw (work_kept s.task r.below) (worked_open speeds rising ts plan s fine d finished pass goes s.task r.below r.work);
                floor = subst (λ (e : Entry). e.floor ≤ s.level) (sym (kept_at s.task r.below)) r.floor;
                level = subst (λ (e : Entry). s.level ≤ max (nominal speeds ts) e.floor) (sym (kept_at s.task r.below)) r.level;
                meets = meets_kept r;
                urgent = λ i h w ne.
                    subst (λ (j : Job). MoreUrgent τ (latest τ (s.clock + d) s.task) j) (sym (job_kept i h))
                    (subst (λ (j : Job). MoreUrgent τ j (latest τ s.clock i)) (sym (job_kept s.task r.below))
                    (r.urgent i h (worked_was speeds s d finished i (rw (work_kept i h) at w)) ne));
              })

    -- an order is chosen anew unless the job goes on and nothing arrives
    goes_on : anew ≡ false → finished ≡ false
    goes_on = neither_first finished arrives

    none_arrives : anew ≡ false → arrives ≡ false
    none_arrives = neither_second finished arrives

    pub pass_fine : Fine speeds ts (passed_state speeds τ s d finished)
    pass_fine =
        elim (tested anew) as (λ b _. anew ≡ b → Fine speeds ts (pick b (chosen_state speeds τ moved) moved)) [
          | passed ↦ λ e. fine_chosen speeds rising ts plan.tasks moved moved_fine (anew_ahead e)
          | failed ↦ λ e. record {
            entries = moved_fine;
            order = facts_order speeds τ (nominal speeds ts) moved (order_kept (goes_on e) (none_arrives e));
            pace = pace_kept (goes_on e) (none_arrives e);
          }
        ] refl

    -- so where a job arrives every task is ahead
    pub arrival_ahead : arrives ≡ true → Ahead speeds ts (passed_state speeds τ s d finished)
    arrival_ahead a =
        subst (λ (l : List Entry). (i : ℕ) → i < length ts → time_of (nominal_speed speeds ts) (rest_in (get_or l i no_entry)) ≤ (get_or l i no_entry).remaining)
        (sym (passed_entries speeds τ s d finished)) (anew_ahead (either_second finished a))

    -- where the order stays its hold falls by d, and that is the hold of the new state
    hold_kept : anew ≡ false → hold_of speeds τ (view_of s) - d ≡ hold_of speeds τ (view_of moved)
    hold_kept e = go (ordered speeds ts s fine)
      where
        next : next_arrival τ (s.clock + d) ≡ next_arrival τ s.clock - d
        next = next_kept (goes_on e) (none_arrives e)

        go : Ordered speeds τ (nominal speeds ts) s → hold_of speeds τ (view_of s) - d ≡ hold_of speeds τ (view_of moved)
        go (idles t l z) = rw (eq-eqb s.task 255 t) (sym next)
        go (runs r) =
            let x : eqb s.task 255 ≡ false = not-true (eqb s.task 255) (runs_running speeds rising ts plan s r) in
            rw x (omega (arith, next, time_kept (goes_on e) (none_arrives e) r))

    pub pass_hold : passed_hold speeds τ s d finished ≡ hold_of speeds τ (view_of (passed_state speeds τ s d finished))
    pass_hold =
        elim (tested anew)
        as (λ b _.
        anew ≡ b →
        pick {A = ℕ} b (hold_of speeds τ (view_of (pick b (chosen_state speeds τ moved) moved))) (hold_of speeds τ (view_of s) - d)
        ≡ hold_of speeds τ (view_of (pick b (chosen_state speeds τ moved) moved)))
        [ passed ↦ λ e. refl | failed ↦ hold_kept ]
        refl

  -- the hold of a sound state's order
  module _ (s : State) (fine : Fine speeds ts s) where
    pub hold_next : hold_of speeds τ (view_of s) ≤ next_arrival τ s.clock
    hold_next =
        elim (tested (eqb s.task 255))
        as (λ b _.
        pick {A = ℕ} b (next_arrival τ s.clock) (min (running_time speeds (view_of s)) (next_arrival τ s.clock))
        ≤ next_arrival τ s.clock)
        [ passed ↦ omega arith | failed ↦ omega arith ]

    pub hold_time : running (view_of s) ≡ true → hold_of speeds τ (view_of s) ≤ running_time speeds (view_of s)
    hold_time h = rw (not-true (eqb s.task 255) h) (omega arith)

    pub hold_positive : 1 ≤ hold_of speeds τ (view_of s)
    hold_positive = go (ordered speeds ts s fine)
      where
        next : 1 ≤ next_arrival τ s.clock
        next = next_positive τ plan.count_low periods s.clock

        go : Ordered speeds τ (nominal speeds ts) s → 1 ≤ hold_of speeds τ (view_of s)
        go (idles t l z) = rw (eq-eqb s.task 255 t) next
        go (runs r) =
            rw (not-true (eqb s.task 255) (runs_running speeds rising ts plan s r)) (omega (arith, next, time_positive speeds rising ts plan s fine.entries r))

    -- a pass of that hold is accepted, finished exactly if it is the whole time needed
    pub hold_accepted :
        Accepted speeds τ s (hold_of speeds τ (view_of s))
        (both (running (view_of s)) (eqb (hold_of speeds τ (view_of s)) (running_time speeds (view_of s))))
    hold_accepted = record {
      some = hold_positive;
      within = hold_next;
      runs = both_left (running (view_of s)) (eqb (hold_of speeds τ (view_of s)) (running_time speeds (view_of s)));
      time = hold_time;
      unfinished = less;
    }
      where
        less :
            running (view_of s) ≡ true →
            both (running (view_of s)) (eqb (hold_of speeds τ (view_of s)) (running_time speeds (view_of s))) ≡ false →
            hold_of speeds τ (view_of s) < running_time speeds (view_of s)
        less h e =
            let ne : hold_of speeds τ (view_of s) ≡ running_time speeds (view_of s) → ⊥ =
            λ x. true≢false (sym (both_true h (eq-eqb (hold_of speeds τ (view_of s)) (running_time speeds (view_of s)) x)) ∙ e) in
            omega (arith, hold_time h)

    -- and so is an earlier finish
    pub finish_accepted :
        (d : ℕ) →
        1 ≤ d →
        d ≤ hold_of speeds τ (view_of s) →
        running (view_of s) ≡ true →
        Accepted speeds τ s d true
    finish_accepted d some most h = record {
      some = some;
      within = omega (arith, hold_next);
      runs = λ e. h;
      time = λ e. omega (arith, hold_time h);
      unfinished = λ e f. absurd (true≢false f);
    }
