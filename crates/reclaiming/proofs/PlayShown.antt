-- A list of passes that was played, and the queue that is shown of the state that they left.
-- Assumes nothing.
use Prim.Native.Nat.{ℕ, zero, suc, ◌≤◌, ◌<◌}
use mathlib.Core.Path.{◌≡◌, refl, sym, subst₂, ap, ◌∙◌}
use mathlib.Core.Bool.{true}
use mathlib.Core.List.{List}
use native.Mathlib.Omega.{arith}
use lib.ListN.{length, take}
use lib.Seq.{take-length}
use Rattle.arith.proofs.QuestionLaws.{first_no_most}
use Rattle.plan.specs.LevelBlocks.{speeds_in}
use Rattle.plan.specs.Blocks.{tasks_in}
use Rattle.schedule.specs.PlainSchedule.{Timing, opened}
use Rattle.reclaiming.specs.Allotments.{timing}
use Rattle.reclaiming.specs.Orders.{hold_of, order_with}
use Rattle.reclaiming.specs.Replies.{Reply, replied_by, is_order}
use Rattle.reclaiming.specs.Passes.{Pass}
use Rattle.reclaiming.specs.Books.{Answered, ran_all}
use Rattle.reclaiming.specs.StateBlock.{State, plan_in, state_length}
use Rattle.reclaiming.specs.States.{start_state, view_of}
use Rattle.reclaiming.specs.Questions.{starting}
use Rattle.reclaiming.specs.Calls.{start_number, start_reply, start_order, show_reply, show_buffer}
use Rattle.reclaiming.specs.Run.{bytes_after, started_bytes}
use Rattle.reclaiming.specs.Promises.{Started, Shows, state_after, plain_book}
use Rattle.reclaiming.specs.Numbers.{reply_number}
use Rattle.reclaiming.specs.Play.{reply_from, left_by, played_state, played_replies, played_shown, played_queue, PlayedQueueShown}
use Rattle.reclaiming.proofs.Replies.{is_idle, is_run_lem, view_order}
use Rattle.reclaiming.proofs.Demand.{queue_shown, room}
use Rattle.reclaiming.proofs.PlayLaws.{started_number, number_started, number_accepted, carried, left_front}
use Rattle.std.specs.declared.result.Result.TheVariants.{Ok}
use Rattle.plan.specs.Counted.{Counted}

-- an order's number is above every refusal's
order_above : (s : State) (hold : ℕ) → 256 ≤ reply_number (order_with (view_of s) hold)
order_above s hold = elim (view_order s hold) as (λ r _. 256 ≤ reply_number r) [ is_idle e ↦ omega arith | is_run_lem e ↦ omega arith ]

-- a list that was played: the number returned, and what stands in the lent blocks
pub record Ran (levels block pairs state : List ℕ) (passes : List Pass) (found : List ℕ) (number : ℕ) (m replies : List ℕ) : Type 0 where
  pub numbered : number ≡ reply_number (start_reply levels block pairs (length state))
  pub state_is : m ≡ played_state levels block pairs state passes
  pub replies_are : replies ≡ played_replies levels block pairs state passes found
  pub kept : length m ≡ length state

-- over any level block
module _ (levels : List ℕ) where
  abbrev speeds : List ℕ
  speeds = speeds_in levels

  -- so the number tells whether the start was accepted
  module _ (block pairs state : List ℕ) where
    abbrev first : ℕ
    first = reply_number (start_reply levels block pairs (length state))

    abbrev begun : State
    begun = start_state speeds (tasks_in block)

    first_by : (n : ℕ) → start_number levels block pairs (length state) ≡ n → first ≡ reply_number (replied_by n (start_order speeds begun))
    first_by n e = ap (λ (k : ℕ). reply_number (replied_by k (start_order speeds begun))) e

    first_refused : first < 256 → start_number levels block pairs (length state) ≡ 0 → ⊥
    first_refused h e = omega (arith, first_by 0 e, order_above begun (hold_of speeds (timing speeds (plan_in begun)) (view_of begun)))

    first_accepted : 256 ≤ first → Started levels block pairs state
    first_accepted h = number_started levels block pairs state (none (start_number levels block pairs (length state)) refl)
      where
        none : (n : ℕ) → start_number levels block pairs (length state) ≡ n → start_number levels block pairs (length state) ≡ 0
        none zero e = e
        none (suc n) e = absurd (omega (arith, first_by (suc n) e, e, first_no_most 255 (starting levels block pairs (length state)) refl))

  module _ {block pairs state : List ℕ} {passes : List Pass} {found : List ℕ} {number : ℕ} {m replies : List ℕ}
      (r : Ran levels block pairs state passes found number m replies) (lent : List ℕ) where
    -- what playing and showing answer and leave
    abbrev ShownLeaves : Counted → List ℕ → Type 0
    ShownLeaves answer left =
        (number ≡ reply_number (start_reply levels block pairs (length state)))
        × ((answer ≡ played_shown levels block pairs state passes (length lent))
        × ((m ≡ played_state levels block pairs state passes)
        × ((replies ≡ played_replies levels block pairs state passes found)
        × ((left ≡ played_queue levels block pairs state passes lent)
        × PlayedQueueShown levels block number passes replies lent answer left))))

    abbrev bytes : List ℕ
    bytes = bytes_after (started_bytes levels block pairs state) passes

    abbrev answer_by : ℕ → Counted
    answer_by n = left_by n (show_reply bytes (length lent)) (Ok 0)

    abbrev left_of : ℕ → List ℕ
    left_of n = left_by n (show_buffer bytes lent) lent

    -- the start was refused, and nothing is shown
    pub shown_not : number < 256 → ShownLeaves (Ok 0) lent
    shown_not h =
        let low : first block pairs state < 256 = omega (arith, r.numbered) in
        let kept-as = unshown (start_number levels block pairs (length state)) refl (first_refused block pairs state low) in (
          r.numbered,
          (kept-as.0, (r.state_is, (r.replies_are, (kept-as.1, λ accepted. absurd (never low (subst_number accepted)))))),
        )
      where
        unshown :
            (n : ℕ) →
            start_number levels block pairs (length state) ≡ n →
            (start_number levels block pairs (length state) ≡ 0 → ⊥) →
            (Ok 0 ≡ played_shown levels block pairs state passes (length lent)) × (lent ≡ played_queue levels block pairs state passes lent)
        unshown zero e no_start = absurd (no_start e)
        unshown (suc n) e no_start = (sym (ap answer_by e), sym (ap left_of e))

        never : first block pairs state < 256 → is_order (reply_from (first block pairs state)) ≡ true → ⊥
        never low accepted = first_refused block pairs state low (started_number levels block pairs state (number_accepted levels block pairs state found passes accepted))

        subst_number : is_order (reply_from number) ≡ true → is_order (reply_from (first block pairs state)) ≡ true
        subst_number accepted = ap (λ (n : ℕ). is_order (reply_from n)) (sym r.numbered) ∙ accepted

    -- the start was accepted
    module _ (h : 256 ≤ number) where
      ok : Started levels block pairs state
      ok = first_accepted block pairs state (omega (arith, r.numbered))

      zero_is : start_number levels block pairs (length state) ≡ 0
      zero_is = started_number levels block pairs state ok

      pub shown_room : state_length ≤ length m
      shown_room = omega (arith, room levels block pairs state ok, r.kept)

      -- the state shown is the run's
      shown_state : take state_length m ≡ bytes
      shown_state = ap (take state_length) r.state_is ∙ left_front levels block pairs state found passes ok

      abbrev τ : Timing
      τ = timing speeds (tasks_in block)

      -- said of the numbers that stand in the lent blocks
      queue_said :
          {answer : Counted} {left : List ℕ} →
          answer ≡ show_reply bytes (length lent) →
          left ≡ show_buffer bytes lent →
          PlayedQueueShown levels block number passes replies lent answer left
      queue_said {answer} {left} a b =
          subst₂ (λ (n : ℕ) (l : List ℕ). PlayedQueueShown levels block n passes l lent answer left) (sym r.numbered) (sym r.replies_are)
          (λ accepted.
          carried levels block pairs state found passes (λ (x : Reply) (l : List Answered). Shows (ran_all τ (opened τ) l).pending lent answer left) ok (length passes)
          (subst₂ (Shows (plain_book levels block pairs state (all passes)).pending lent) (sym answer_is) (sym left_is)
          (queue_shown levels block pairs state (all passes) lent ok)))
        where
          all : List Pass → List Pass
          all ps = take (length passes) ps

          answer_is : answer ≡ show_reply (state_after levels block pairs state (all passes)) (length lent)
          answer_is = a ∙ ap (λ (ps : List Pass). show_reply (state_after levels block pairs state ps) (length lent)) (sym (take-length passes))

          left_is : left ≡ show_buffer (state_after levels block pairs state (all passes)) lent
          left_is = b ∙ ap (λ (ps : List Pass). show_buffer (state_after levels block pairs state ps) lent) (sym (take-length passes))

      pub shown_is :
          {answer : Counted} {left : List ℕ} →
          answer ≡ show_reply (take state_length m) (length lent) →
          left ≡ show_buffer (take state_length m) lent →
          ShownLeaves answer left
      shown_is {answer} {left} a b =
          let a' : answer ≡ show_reply bytes (length lent) = a ∙ ap (λ (l : List ℕ). show_reply l (length lent)) shown_state in
          let b' : left ≡ show_buffer bytes lent = b ∙ ap (λ (l : List ℕ). show_buffer l lent) shown_state in (
            r.numbered,
            (a' ∙ sym (ap answer_by zero_is), (r.state_is, (r.replies_are, (b' ∙ sym (ap left_of zero_is), queue_said a' b')))),
          )
