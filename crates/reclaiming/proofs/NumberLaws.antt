-- The dispatcher's calls as C sees them: every answer fits one number.
-- Assumes nothing.
use Prim.Native.Nat.{ℕ, zero, suc, ◌-◌, ◌*◌, ◌%◌, ◌^◌, ◌<◌, ◌≤◌}
use mathlib.Core.Bool.{Bool, true}
use mathlib.Core.Path.{◌≡◌, refl, sym, subst}
use mathlib.Core.List.{List, [], ◌∷◌}
use native.Mathlib.Omega.{arith}
use lib.ListN.{length}
use Rattle.plan.specs.declared.Task.{Task}
use Rattle.plan.specs.LevelBlocks.{speeds_in}
use Rattle.plan.specs.Blocks.{tasks_in}
use Rattle.plan.proofs.NumberLaws.{counted_most}
use Rattle.plan.proofs.LevelBlockLaws.{FineTable, few_levels}
use Rattle.plan.proofs.Facts.{FineList}
use Rattle.arith.proofs.QuestionLaws.{Yes, all_yes, yes_all, first_no_most}
use Rattle.schedule.specs.PlainSchedule.{Timing, Pending}
use Rattle.schedule.proofs.QueueLaws.{queue_of-length}
use Rattle.reclaiming.specs.Allotments.{timing}
use Rattle.reclaiming.specs.Orders.{next_arrival, hold_of, order_with}
use Rattle.reclaiming.specs.Replies.{Reply, replied_by}
use Rattle.reclaiming.specs.Passes.{pass_questions}
use Rattle.reclaiming.specs.StateBlock.{State, plan_in, decode, remaining_of}
use Rattle.reclaiming.specs.States.{start_state, passed_state, view_of}
use Rattle.reclaiming.specs.Questions.{sound, passing, showing, starting}
use Rattle.reclaiming.specs.Calls.{start_number, start_order, start_reply, pass_number, pass_order, pass_reply, queue_bytes, ready_queue, shown_bytes, show_number, show_reply}
use Rattle.reclaiming.specs.Numbers.{reply_number}
use Rattle.reclaiming.proofs.Fine.{Fine}
use Rattle.reclaiming.proofs.Replies.{is_idle, is_run_lem, view_order}
use Rattle.reclaiming.proofs.Plans.{task_range}
use Rattle.reclaiming.proofs.Soundness.{fine_small, sound_state, sound_fine, sound_table, sound_own, pass_accepted, length-plan_in, Starts, start_facts}
use Rattle.arith.proofs.RangeLaws.{least_le}
use Rattle.reclaiming.proofs.PassSound.{start_fine, pass_fine, pass_hold, hold_next}
use Rattle.plan.specs.Counted.{Counted, counted_number}

-- refusals have small numbers, and so do replies: an order's task and level fit a byte each, and its hold is at most a period
order_most : (s : State) (hold : ℕ) → s.task < 256 → s.level < 256 → hold ≤ 65535 → reply_number (order_with (view_of s) hold) < 2 ^ 64
order_most s hold t l h =
    elim (view_order s hold) as (λ r _. reply_number r < 2 ^ 64) [ is_idle e ↦ omega arith | is_run_lem e ↦ omega arith ]

reply_most : (n : ℕ) (order : Reply) → n ≤ 255 → (n ≡ 0 → reply_number order < 2 ^ 64) → reply_number (replied_by n order) < 2 ^ 64
reply_most zero order h f = f refl
reply_most (suc n) order h f = omega arith

-- a queue is shown as three bytes for each entry
queue_bytes-length : (q : List Pending) → length (queue_bytes q) ≡ 3 * length q
queue_bytes-length [] = refl
queue_bytes-length (e ∷ q) = omega (arith, queue_bytes-length q)

-- over any table that may be loaded
module _ (speeds : List ℕ) (table : FineTable speeds) where
  fine_most :
      (ts : List Task) (s : State) →
      FineList speeds (length ts) ts →
      Fine speeds ts s →
      reply_number (order_with (view_of s) (hold_of speeds (timing speeds ts) (view_of s))) < 2 ^ 64
  fine_most ts s plan fine =
      let τ : Timing = timing speeds ts in
      let fits = fine_small speeds ts s plan (few_levels table) fine in
      let first : next_arrival τ s.clock ≤ τ.period 0 - s.clock % τ.period 0 =
      least_le (length ts) (λ i. τ.period i - s.clock % τ.period i) 0 plan.count_low in
      order_most s (hold_of speeds τ (view_of s)) fits.0 fits.1
      (omega (arith, hold_next speeds table.rising ts plan s fine, (task_range speeds ts plan table.rising 0 plan.count_low).period_high))

pub start_most : (levels block pairs : List ℕ) (room : ℕ) (r : Reply) → r ≡ start_reply levels block pairs room → reply_number r < 2 ^ 64
start_most levels block pairs room r e =
    subst (λ (x : Reply). reply_number x < 2 ^ 64) (sym e)
    (reply_most (start_number levels block pairs room) (start_order speeds (start_state speeds (tasks_in block)))
    (first_no_most 255 (starting levels block pairs room) refl) order)
  where
    speeds : List ℕ
    speeds = speeds_in levels

    order : start_number levels block pairs room ≡ 0 → reply_number (start_order speeds (start_state speeds (tasks_in block))) < 2 ^ 64
    order z =
        let ts : List Task = tasks_in block in
        let s : State = start_state speeds ts in
        let k : Starts levels block pairs room = start_facts levels block pairs room z in
        let fine : Fine speeds ts s = start_fine speeds ts k.good k.table.rising in
        subst (λ (us : List Task). reply_number (order_with (view_of s) (hold_of speeds (timing speeds us) (view_of s))) < 2 ^ 64) (sym fine.entries.plan)
        (fine_most speeds k.table ts s k.good fine)

pub pass_most : (bytes : List ℕ) (d : ℕ) (finished : Bool) (r : Reply) → r ≡ pass_reply bytes d finished → reply_number r < 2 ^ 64
pass_most bytes d finished r e =
    subst (λ (x : Reply). reply_number x < 2 ^ 64) (sym e)
    (reply_most (pass_number bytes d finished) (pass_order speeds (decode bytes) d finished)
    (first_no_most 255 (passing bytes d finished) refl) order)
  where
    speeds : List ℕ
    speeds = (decode bytes).speeds

    order : pass_number bytes d finished ≡ 0 → reply_number (pass_order speeds (decode bytes) d finished) < 2 ^ 64
    order z =
        let s : State = decode bytes in
        let ts : List Task = plan_in s in
        let next : State = passed_state speeds (timing speeds ts) s d finished in
        let yes : Yes (passing bytes d finished) = all_yes (passing bytes d finished) refl z in
        let table : FineTable speeds = sound_table bytes yes.0 in
        let f = sound_fine speeds s (sound_state speeds bytes (sound_own bytes yes.0)) in
        let ok = (pass_accepted speeds s d finished (yes_all (pass_questions speeds (timing speeds (plan_in s)) (view_of s) d finished) yes.1)).0 in
        subst (λ (hold : ℕ). reply_number (order_with (view_of next) hold) < 2 ^ 64) (sym (pass_hold speeds table.rising ts f.0 s f.1 d finished ok))
        (fine_most speeds table ts next f.0 (pass_fine speeds table.rising ts f.0 s f.1 d finished ok))

pub show_most : (bytes : List ℕ) (room : ℕ) (w : Counted) → w ≡ show_reply bytes room → counted_number w < 2 ^ 36
show_most bytes room w e =
    subst (λ (x : Counted). counted_number x < 2 ^ 36) (sym e)
    (counted_most (show_number bytes room) (length (shown_bytes bytes)) (first_no_most 255 (showing bytes (length (shown_bytes bytes)) room) refl) long)
  where
    long : show_number bytes room ≡ 0 → length (shown_bytes bytes) ≤ 255
    long z =
        let s : State = decode bytes in
        let speeds : List ℕ = s.speeds in
        let ok : sound bytes ≡ true = (all_yes (showing bytes (length (shown_bytes bytes)) room) refl z).0 in
        let f = sound_fine speeds s (sound_state speeds bytes (sound_own bytes ok)) in
        omega (
          arith,
          queue_bytes-length (ready_queue speeds s),
          queue_of-length (timing speeds (plan_in s)) s.clock (remaining_of s) (length s.entries),
          length-plan_in s,
          f.0.count_high,
        )
