-- Replies as numbers and back, and the promises of the numbers that a run leaves in lent blocks.
-- Assumes nothing.
use Prim.Native.Nat.{ℕ, zero, suc, ◌+◌, ◌*◌, ◌/◌, ◌%◌, ◌≤◌, ◌<◌}
use mathlib.Core.Path.{◌≡◌, refl, sym, subst, subst₂, ap, ap₂, ◌∙◌}
use mathlib.Core.Bool.{Bool, true, false, true≢false}
use mathlib.Core.List.{List, [], ◌∷◌, ◌++◌}
use native.Mathlib.Omega.{arith}
use borrow.Author.Tests.{eq-eqb, ne_eqb}
use lib.Dec.{eqb}
use lib.Arith.{digits_mod}
use lib.ListN.{length, take, drop}
use lib.Seq.{take_at, take-length}
use Rattle.arith.specs.Choice.{pick}
use Rattle.arith.proofs.QuestionLaws.{Yes, all_yes, yes_all, first_no_most}
use Rattle.plan.specs.declared.Task.{Task}
use Rattle.plan.specs.LevelBlocks.{speeds_in}
use Rattle.plan.specs.Blocks.{tasks_in}
use Rattle.plan.specs.Pairs.{pairs_in}
use Rattle.plan.specs.Answers.{stored_by}
use Rattle.plan.proofs.LevelBlockLaws.{FineTable, few_levels}
use Rattle.plan.proofs.Facts.{FineList}
use Rattle.schedule.specs.PlainSchedule.{Timing, Book, canonical_at}
use Rattle.schedule.specs.Served.{AllotmentsGiven}
use Rattle.reclaiming.specs.declared.Order.TheVariants.{Run, Idle}
use Rattle.reclaiming.specs.Allotments.{timing}
use Rattle.reclaiming.specs.Orders.{order_with, hold_of}
use Rattle.reclaiming.specs.Replies.{Reply, run_task, stay_idle, replied_by, is_order}
use Rattle.reclaiming.specs.Passes.{pass_questions, Pass}
use Rattle.reclaiming.specs.Books.{Answered, DispatcherBook, actual_of, plain_of}
use Rattle.reclaiming.specs.StateBlock.{State, encode, decode, plan_in, state_length}
use Rattle.reclaiming.specs.States.{start_state, passed_state, passed_hold, view_of}
use Rattle.reclaiming.specs.Questions.{passing, starting}
use Rattle.reclaiming.specs.Calls.{start_number, start_reply, start_buffer, start_order, pass_number, pass_reply, pass_bytes, pass_order, queued_reply}
use Rattle.reclaiming.specs.Run.{trace, bytes_after, started_bytes}
use Rattle.reclaiming.specs.Promises.{Started, OnTime, ClosesByArrival, EarlierClosed, AboveFloor, NamesMostUrgent, ticks_in, last_order, actual_book, state_after, FollowsBooks, PassWithin, replies, OfNewOrders, AllAhead, TakesEarliness}
use Rattle.reclaiming.specs.Numbers.{reply_number}
use Rattle.reclaiming.specs.Play.{reply_from, reply_numbers, answers_from, left_by, played_state, played_replies, PlayedOnTime, PlayedInTime, PlayedMostUrgent, PlayedPairsKept, PlayedAboveFloor, PlayedTotalTold, PlayedByBooks, PlayedWithin, played_actual, PlayedEarliness, PlayedAhead, PlayedPlainly}
use Rattle.reclaiming.proofs.Fine.{Fine, Accepted}
use Rattle.reclaiming.proofs.Replies.{is_idle, is_run_lem, view_order, order_accepted, not_refused}
use Rattle.reclaiming.proofs.Soundness.{sound_state, sound_fine, sound_table, sound_own, pass_accepted, fine_small, Starts, start_facts}
use Rattle.reclaiming.proofs.PassSound.{start_fine, pass_fine}
use Rattle.reclaiming.proofs.Ideal.{ideal_run, trace_take}
use Rattle.reclaiming.proofs.Bounds.{passes_within}
use Rattle.reclaiming.proofs.Earliness.{theorem_1, with_full_earliness}
use Rattle.reclaiming.proofs.Demand.{demand_3, closes_in_time, runs_most_urgent, pairs_kept, never_crawls, total_told, room, after_length, untouched, one_schedule, every_arrival}
use Rattle.std.specs.declared.result.Result.TheVariants.{Ok, Err}
use Rattle.plan.specs.Counted.{refused}

-- a reply whose parts each fit their place in the number
abbrev pub Small : Reply → Type 0
Small (Ok (Run task level hold)) = (task < 256) × (level < 256)
Small (Ok (Idle hold)) = Unit {0}
Small (Err e) = e.number < 256

-- the lowest of two digits
low : (x high digit : ℕ) → x ≡ high * 256 + digit → digit < 256 → x % 256 ≡ digit
low x high digit e h = ap (λ (y : ℕ). y % 256) e ∙ digits_mod high h

-- what a number stands for, by its kind
abbrev kinds : ℕ → Bool → Bool → Reply
kinds x run idle =
    pick run (run_task (x / 65536 % 256) (x / 16777216 % 256) (x / 4294967296))
    (pick idle (stay_idle (x / 4294967296)) (refused (x % 256)))

pub from_number : (r : Reply) → Small r → reply_from (reply_number r) ≡ r
from_number (Ok (Run task level hold)) small =
    let x : ℕ = 256 + 65536 * task + 16777216 * level + 4294967296 * hold in
    let kind : x / 256 % 256 ≡ 1 = low (x / 256) (task + 256 * level + 65536 * hold) 1 (omega arith) (omega arith) in
    let a : x / 65536 % 256 ≡ task = low (x / 65536) (level + 256 * hold) task (omega arith) small.0 in
    let b : x / 16777216 % 256 ≡ level = low (x / 16777216) hold level (omega arith) small.1 in
    let c : x / 4294967296 ≡ hold = omega arith in
    ap (λ (t : Bool). kinds x t (eqb (x / 256 % 256) 2)) (eq-eqb (x / 256 % 256) 1 kind)
    ∙ ap₂ (λ (y z : ℕ). run_task y z (x / 4294967296)) a b
    ∙ ap (λ (y : ℕ). run_task task level y) c
from_number (Ok (Idle hold)) small =
    let x : ℕ = 512 + 4294967296 * hold in
    let kind : x / 256 % 256 ≡ 2 = low (x / 256) (65536 * hold) 2 (omega arith) (omega arith) in
    let c : x / 4294967296 ≡ hold = omega arith in
    ap₂ (kinds x) (ne_eqb (x / 256 % 256) 1 (λ e. omega arith)) (eq-eqb (x / 256 % 256) 2 kind) ∙ ap (λ (y : ℕ). stay_idle y) c
from_number (Err e) small =
    let n : ℕ = e.number in
    let c : n % 256 ≡ n = omega arith in
    ap₂ (kinds n) (ne_eqb (n / 256 % 256) 1 (λ e. omega arith)) (ne_eqb (n / 256 % 256) 2 (λ e. omega arith)) ∙ ap (λ (y : ℕ). refused y) c

order_small : (s : State) (hold : ℕ) → (s.task < 256) × (s.level < 256) → Small (order_with (view_of s) hold)
order_small s hold fits = elim (view_order s hold) as (λ r _. Small r) [ is_idle e ↦ tt | is_run_lem e ↦ fits ]

replied_small : (n : ℕ) (order : Reply) → n < 256 → (n ≡ 0 → Small order) → Small (replied_by n order)
replied_small zero order small fits = fits refl
replied_small (suc n) order small fits = small

-- a start on lent blocks: its reply, whether that is an order, and the state that it leaves
pub record Begun (levels block pairs state : List ℕ) (x : Reply) (b : Bool) (l : List ℕ) : Type 0 where
  pub replied : x ≡ start_reply levels block pairs (length state)
  pub tested : b ≡ is_order x
  pub left : l ≡ start_buffer levels block pairs state
  pub kept : length l ≡ length state

-- every reply of a pass is such
module _ (bytes : List ℕ) (d : ℕ) (finished : Bool) where
  abbrev before : State
  before = decode bytes

  abbrev held : List ℕ
  held = before.speeds

  abbrev next : State
  next = passed_state held (timing held (plan_in before)) before d finished

  next_small : pass_number bytes d finished ≡ 0 → (next.task < 256) × (next.level < 256)
  next_small e =
      let yes : Yes (passing bytes d finished) = all_yes (passing bytes d finished) refl e in
      let table : FineTable held = sound_table bytes yes.0 in
      let fine : FineList held (length (plan_in before)) (plan_in before) × Fine held (plan_in before) before =
      sound_fine held before (sound_state held bytes (sound_own bytes yes.0)) in
      let ok : Accepted held (timing held (plan_in before)) before d finished =
      (pass_accepted held before d finished (yes_all (pass_questions held (timing held (plan_in before)) (view_of before) d finished) yes.1)).0 in
      fine_small held (plan_in before) next fine.0 (few_levels table)
      (pass_fine held table.rising (plan_in before) fine.0 before fine.1 d finished ok)

  pass_small : Small (pass_reply bytes d finished)
  pass_small =
      replied_small (pass_number bytes d finished) (pass_order held before d finished)
      (omega (arith, first_no_most 255 (passing bytes d finished) refl))
      (λ e. order_small next (passed_hold held (timing held (plan_in before)) before d finished) (next_small e))

-- so the replies that stand in a lent block are those of the run
answers_same :
    (passes : List Pass) (bytes rest : List ℕ) → answers_from passes (reply_numbers (trace bytes passes) ++ rest) ≡ trace bytes passes
answers_same [] bytes rest = refl
answers_same (p ∷ ps) bytes rest =
    ap₂ (λ (r : Reply) (l : List Answered). record { pass = p; reply = r } ∷ l)
    (from_number (pass_reply bytes p.d p.finished) (pass_small bytes p.d p.finished))
    (answers_same ps (pass_bytes bytes p.d p.finished) rest)

-- over any level block
module _ (levels : List ℕ) where
  abbrev speeds : List ℕ
  speeds = speeds_in levels

  -- every reply of a start is such
  module _ (block pairs buffer : List ℕ) where
    abbrev begun : State
    begun = start_state speeds (tasks_in block)

    abbrev begun_hold : ℕ
    begun_hold = hold_of speeds (timing speeds (plan_in begun)) (view_of begun)

    -- a start is answered with an order exactly if no question is answered no
    pub started_number : Started levels block pairs buffer → start_number levels block pairs (length buffer) ≡ 0
    started_number = not_refused (start_number levels block pairs (length buffer)) (start_order speeds begun)

    pub number_started : start_number levels block pairs (length buffer) ≡ 0 → Started levels block pairs buffer
    number_started e = ap (λ (n : ℕ). is_order (replied_by n (order_with (view_of begun) begun_hold))) e ∙ order_accepted begun begun_hold

    start_small : Small (start_reply levels block pairs (length buffer))
    start_small =
        replied_small (start_number levels block pairs (length buffer)) (start_order speeds begun)
        (omega (arith, first_no_most 255 (starting levels block pairs (length buffer)) refl))
        (λ e. order_small begun begun_hold (small (start_facts levels block pairs (length buffer) e)))
      where
        small : Starts levels block pairs (length buffer) → (begun.task < 256) × (begun.level < 256)
        small k = fine_small speeds (tasks_in block) begun k.good (few_levels k.table) (start_fine speeds (tasks_in block) k.good k.table.rising)

  -- what playing leaves where the start is accepted
  module _ (block pairs state : List ℕ) (passes : List Pass) where
    abbrev bytes_left : List ℕ
    bytes_left = bytes_after (started_bytes levels block pairs state) passes ++ drop state_length state

    abbrev replies_left : List ℕ → List ℕ
    replies_left found = reply_numbers (trace (started_bytes levels block pairs state) passes) ++ drop (length passes) found

  -- what holds of a run's replies holds of the numbers that playing leaves
  module _ (block pairs state found : List ℕ) (passes : List Pass) where
    abbrev first_number : ℕ
    first_number = reply_number (start_reply levels block pairs (length state))

    abbrev replies_found : List ℕ
    replies_found = played_replies levels block pairs state passes found

    first_back : reply_from first_number ≡ start_reply levels block pairs (length state)
    first_back = from_number (start_reply levels block pairs (length state)) (start_small block pairs state)

    pub number_accepted : is_order (reply_from first_number) ≡ true → Started levels block pairs state
    number_accepted ok = ap is_order (sym first_back) ∙ ok

    -- the replies in the lent block, all of them
    all_back : Started levels block pairs state → answers_from passes replies_found ≡ trace (started_bytes levels block pairs state) passes
    all_back ok =
        ap (λ (k : ℕ). answers_from passes (left_by k (replies_left block pairs state passes found) found)) (started_number block pairs state ok)
        ∙ answers_same passes (started_bytes levels block pairs state) (drop (length passes) found)

    answers_back :
        Started levels block pairs state →
        (n : ℕ) →
        take n (answers_from passes replies_found) ≡ trace (started_bytes levels block pairs state) (take n passes)
    answers_back ok n = ap (take n) (all_back ok) ∙ trace_take n (started_bytes levels block pairs state) passes

    pub carried :
        (P : Reply → List Answered → Type 0) →
        Started levels block pairs state →
        (n : ℕ) →
        P (start_reply levels block pairs (length state)) (trace (started_bytes levels block pairs state) (take n passes)) →
        P (reply_from first_number) (take n (answers_from passes replies_found))
    carried P ok n = subst₂ P (sym first_back) (sym (answers_back ok n))

    -- of all replies
    carried_all :
        (P : Reply → List Answered → Type 0) →
        Started levels block pairs state →
        P (start_reply levels block pairs (length state)) (trace (started_bytes levels block pairs state) passes) →
        P (reply_from first_number) (answers_from passes replies_found)
    carried_all P ok = subst₂ P (sym first_back) (sym (all_back ok))

    abbrev ts : List Task
    ts = tasks_in block

    abbrev τ : Timing
    τ = timing speeds ts

    -- the books of a run's replies
    abbrev actual : Reply → List Answered → DispatcherBook
    actual = actual_of speeds ts

    abbrev plain : List Answered → Book
    plain = plain_of speeds ts

    played_on_time : PlayedOnTime levels block first_number passes replies_found
    played_on_time accepted n =
        let ok : Started levels block pairs state = number_accepted accepted in
        carried (λ (r : Reply) (l : List Answered). OnTime speeds τ (actual r l) (plain l)) ok n (demand_3 levels block pairs state (take n passes) ok)

    booked_back :
        Started levels block pairs state →
        (m : ℕ) →
        actual_book levels block pairs state (take m passes) ≡ played_actual levels block first_number passes replies_found m
    booked_back ok m = ap₂ actual (sym first_back) (sym (answers_back ok m))

    played_in_time : PlayedInTime levels block first_number passes replies_found
    played_in_time accepted n =
        let ok : Started levels block pairs state = number_accepted accepted in
        subst₂ (ClosesByArrival τ) (booked_back ok n) (booked_back ok (suc n)) (closes_in_time levels block pairs state passes n ok)

    played_most_urgent : PlayedMostUrgent levels block first_number passes replies_found
    played_most_urgent accepted n =
        let ok : Started levels block pairs state = number_accepted accepted in
        carried (λ (r : Reply) (l : List Answered). NamesMostUrgent τ (actual r l) (last_order r l)) ok n
        (runs_most_urgent levels block pairs state (take n passes) ok)

    played_pairs_kept : PlayedPairsKept levels block first_number passes replies_found pairs
    played_pairs_kept accepted n =
        let ok : Started levels block pairs state = number_accepted accepted in
        carried (λ (r : Reply) (l : List Answered). EarlierClosed τ (pairs_in pairs) (actual r l)) ok n
        (pairs_kept levels block pairs state (take n passes) ok)

    played_above_floor : PlayedAboveFloor levels block first_number passes replies_found
    played_above_floor accepted n =
        let ok : Started levels block pairs state = number_accepted accepted in
        carried (λ (r : Reply) (l : List Answered). AboveFloor ts (actual r l)) ok n (never_crawls levels block pairs state (take n passes) ok)

    -- the state that is left begins with the run's
    pub left_front : Started levels block pairs state → take state_length (played_state levels block pairs state passes) ≡ state_after levels block pairs state passes
    left_front ok =
        ap (λ (n : ℕ). take state_length (left_by n (bytes_left block pairs state passes) state)) (started_number block pairs state ok)
        ∙ take_at (state_after levels block pairs state passes) (drop state_length state) state_length (after_length levels block pairs state passes ok)

    played_total_told : PlayedTotalTold levels block first_number passes replies_found (played_state levels block pairs state passes)
    played_total_told accepted =
        let ok : Started levels block pairs state = number_accepted accepted in
        let all : List Pass = take (length passes) passes in
        carried (λ (r : Reply) (l : List Answered). queued_reply (take state_length (played_state levels block pairs state passes)) ≡ Ok (ticks_in (plain l).pending))
        ok (length passes)
        (ap queued_reply (left_front ok ∙ ap (λ (ps : List Pass). state_after levels block pairs state ps) (sym (take-length passes)))
        ∙ total_told levels block pairs state all ok)

    played_by_books : PlayedByBooks levels block first_number passes replies_found (played_state levels block pairs state passes)
    played_by_books accepted =
        let ok : Started levels block pairs state = number_accepted accepted in
        carried_all
        (λ (r : Reply) (l : List Answered). FollowsBooks speeds ts r l passes (take state_length (played_state levels block pairs state passes)))
        ok
        (subst
        (FollowsBooks speeds ts (start_reply levels block pairs (length state)) (replies levels block pairs state passes) passes)
        (sym (left_front ok)) (ideal_run levels block pairs state passes ok))

    played_earliness : PlayedEarliness levels block first_number passes replies_found
    played_earliness accepted =
        let ok : Started levels block pairs state = number_accepted accepted in
        carried_all (OfNewOrders (TakesEarliness speeds ts) speeds ts) ok (with_full_earliness levels block pairs state passes ok)

    played_ahead : PlayedAhead levels block first_number passes replies_found
    played_ahead accepted n =
        let ok : Started levels block pairs state = number_accepted accepted in
        carried (λ (r : Reply) (l : List Answered). AllAhead speeds ts (actual r l) (plain l)) ok n (theorem_1 levels block pairs state (take n passes) ok)

    played_within : PlayedWithin levels block first_number passes replies_found
    played_within accepted n =
        let ok : Started levels block pairs state = number_accepted accepted in
        carried_all (λ (r : Reply) (l : List Answered). PassWithin speeds ts r l n) ok (passes_within levels block pairs state passes n ok)

    played_plainly : PlayedPlainly levels block first_number passes replies_found
    played_plainly accepted n =
        let ok : Started levels block pairs state = number_accepted accepted in
        carried (λ (r : Reply) (l : List Answered). (plain l ≡ canonical_at τ (actual r l).clock) × AllotmentsGiven τ (plain l)) ok n
        (one_schedule levels block pairs state (take n passes) ok, every_arrival levels block pairs state (take n passes) ok)

  -- what it leaves where the start is refused, and where it is accepted
  module _ (block pairs state : List ℕ) (passes : List Pass) (found : List ℕ) where
    -- the number that is returned, the state and the replies; the promises are said of that number, those replies and that state
    abbrev Promised : ℕ → List ℕ → List ℕ → Type 0
    Promised first m replies =
        PlayedOnTime levels block first passes replies
        × (PlayedInTime levels block first passes replies
        × (PlayedMostUrgent levels block first passes replies
        × (PlayedPairsKept levels block first passes replies pairs
        × (PlayedTotalTold levels block first passes replies m
        × (PlayedByBooks levels block first passes replies m
        × (PlayedEarliness levels block first passes replies
        × (PlayedAhead levels block first passes replies
        × (PlayedWithin levels block first passes replies
        × (PlayedPlainly levels block first passes replies × PlayedAboveFloor levels block first passes replies)))))))))

    abbrev PlayLeaves : ℕ → List ℕ → List ℕ → Type 0
    PlayLeaves first m replies =
        (first ≡ reply_number (start_reply levels block pairs (length state)))
        × ((m ≡ played_state levels block pairs state passes)
        × ((replies ≡ played_replies levels block pairs state passes found) × Promised first m replies))

    play_leaves :
        (first : ℕ) (m replies : List ℕ) →
        first ≡ reply_number (start_reply levels block pairs (length state)) →
        m ≡ played_state levels block pairs state passes →
        replies ≡ played_replies levels block pairs state passes found →
        PlayLeaves first m replies
    play_leaves first m replies e f r =
        (e, (f, (r, subst₂ (λ (n : ℕ) (l : List ℕ). Promised n m l) (sym e) (sym r) (subst (λ (l : List ℕ). Promised number l left) (sym f) promised))))
      where
        number : ℕ
        number = reply_number (start_reply levels block pairs (length state))

        left : List ℕ
        left = played_replies levels block pairs state passes found

        books :
            PlayedByBooks levels block number passes left (played_state levels block pairs state passes)
            × (PlayedEarliness levels block number passes left
            × (PlayedAhead levels block number passes left
            × (PlayedWithin levels block number passes left
            × (PlayedPlainly levels block number passes left × PlayedAboveFloor levels block number passes left))))
        books = (
          played_by_books block pairs state found passes,
          (
            played_earliness block pairs state found passes,
            (
              played_ahead block pairs state found passes,
              (
                played_within block pairs state found passes,
                (played_plainly block pairs state found passes, played_above_floor block pairs state found passes),
              ),
            ),
          ),
        )

        promised : Promised number (played_state levels block pairs state passes) left
        promised = (
          played_on_time block pairs state found passes,
          (
            played_in_time block pairs state found passes,
            (
              played_most_urgent block pairs state found passes,
              (
                played_pairs_kept block pairs state found passes,
                (played_total_told block pairs state found passes, books),
              ),
            ),
          ),
        )

    -- by the number of the start's questions
    abbrev state_by : ℕ → List ℕ
    state_by n = left_by n (bytes_left block pairs state passes) state

    abbrev replies_by : ℕ → List ℕ
    replies_by n = left_by n (replies_left block pairs state passes found) found

    left_refused :
        (n : ℕ) →
        start_number levels block pairs (length state) ≡ n →
        (Started levels block pairs state → ⊥) →
        (start_buffer levels block pairs state ≡ played_state levels block pairs state passes) × (found ≡ played_replies levels block pairs state passes found)
    left_refused zero e never = absurd (never (number_started block pairs state e))
    left_refused (suc n) e never = (
      ap (λ (k : ℕ). stored_by k (encode (begun block pairs state)) state) e ∙ sym (ap state_by e),
      sym (ap replies_by e),
    )

    module _ (ok : Started levels block pairs state) (l : List ℕ) (started : l ≡ start_buffer levels block pairs state) where
      left_state : (m : List ℕ) → m ≡ bytes_after (take state_length l) passes → m ++ drop state_length l ≡ played_state levels block pairs state passes
      left_state m e =
          ap₂ (λ (x y : List ℕ). x ++ y)
          (e ∙ ap (λ (x : List ℕ). bytes_after (take state_length x) passes) started)
          (ap (drop state_length) started ∙ untouched levels block pairs state ok)
          ∙ sym (ap state_by (started_number block pairs state ok))

      left_replies :
          (m : List ℕ) →
          m ≡ reply_numbers (trace (take state_length l) passes) ++ drop (length passes) found →
          m ≡ played_replies levels block pairs state passes found
      left_replies m e =
          e
          ∙ ap (λ (x : List ℕ). reply_numbers (trace (take state_length x) passes) ++ drop (length passes) found) started
          ∙ sym (ap replies_by (started_number block pairs state ok))

  module _ {block pairs state : List ℕ} {x : Reply} {b : Bool} {l : List ℕ} (begun : Begun levels block pairs state x b l) where
    order_tested : b ≡ is_order (start_reply levels block pairs (length state))
    order_tested = begun.tested ∙ ap is_order begun.replied

    is_refusal : b ≡ false → Started levels block pairs state → ⊥
    is_refusal f ok = true≢false (sym ok ∙ sym order_tested ∙ f)

    no_refusal : b ≡ true → Started levels block pairs state
    no_refusal t = sym order_tested ∙ t

    -- an accepted start has its 221 bytes
    pub play_room : b ≡ true → state_length ≤ length l
    play_room t = omega (arith, room levels block pairs state (no_refusal t), begun.kept)

    module _ (passes : List Pass) (found : List ℕ) {first : ℕ} (numbered : first ≡ reply_number x) where
      first_is : first ≡ reply_number (start_reply levels block pairs (length state))
      first_is = numbered ∙ ap reply_number begun.replied

      pub play_refused : b ≡ false → PlayLeaves block pairs state passes found first l found
      play_refused f =
          let same = left_refused block pairs state passes found (start_number levels block pairs (length state)) refl (is_refusal f) in
          play_leaves block pairs state passes found first l found first_is (begun.left ∙ same.0) same.1

      pub play_accepted :
          {m replies : List ℕ} →
          b ≡ true →
          m ≡ bytes_after (take state_length l) passes →
          replies ≡ reply_numbers (trace (take state_length l) passes) ++ drop (length passes) found →
          PlayLeaves block pairs state passes found first (m ++ drop state_length l) replies
      play_accepted {m} {replies} t e r =
          play_leaves block pairs state passes found first (m ++ drop state_length l) replies first_is
          (left_state block pairs state passes found (no_refusal t) l begun.left m e)
          (left_replies block pairs state passes found (no_refusal t) l begun.left replies r)
