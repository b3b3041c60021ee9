-- What the plain ticks left of a ready queue come to, in all: what it was made from, and what is left of them after d ticks.
-- Assumes nothing.
use Prim.Native.Nat.{ℕ, zero, suc, ◌+◌, ◌-◌}
use mathlib.Core.Path.{◌≡◌, refl, sym, ap, ◌∙◌}
use mathlib.Core.List.{List, [], ◌∷◌}
use native.Mathlib.Omega.{arith}
use Rattle.arith.specs.Choice.{pick}
use Rattle.arith.specs.Sum.{sum_to, sum_of}
use Rattle.arith.proofs.Tests.{le_yes, le_not, test_le, eq_yes, eq_not, test_eq}
use Rattle.schedule.specs.PlainSchedule.{Timing, Pending, latest, enqueue, drain, queue_of, left_in}
use Rattle.schedule.proofs.Queue.{enqueue_sum}
use Rattle.schedule.proofs.QueueLaws.{drain_queue_of}

-- the plain ticks left of an entry
abbrev ticks : Pending → ℕ
ticks e = e.remaining

module _ (τ : Timing) (t : ℕ) (left : ℕ → ℕ) where
  -- a task with nothing left adds nothing, and its place in the queue does not matter
  pub queue_total : (n : ℕ) → sum_of ticks (queue_of τ t left n) ≡ sum_to n left
  queue_total zero = refl
  queue_total (suc i) =
      elim (test_eq (left i) 0)
      as (λ b _.
      sum_of ticks (pick b (queue_of τ t left i) (enqueue τ (record { job = latest τ t i; remaining = left i }) (queue_of τ t left i)))
      ≡ sum_to i left + left i) [
        | eq_yes h ↦ omega (arith, queue_total i)
        | eq_not h ↦ omega (arith, queue_total i, enqueue_sum τ (record { job = latest τ t i; remaining = left i }) ticks (queue_of τ t left i))
      ]

-- d ticks take d from it, or all that there is
drain_total : (d : ℕ) (q : List Pending) → sum_of ticks (drain d q) ≡ sum_of ticks q - d
drain_total d [] = omega arith
drain_total d (e ∷ q) =
    elim (test_le (suc d) e.remaining)
    as (λ b _.
    sum_of ticks (pick b (record { job = e.job; remaining = e.remaining - d } ∷ q) (drain (d - e.remaining) q))
    ≡ e.remaining + sum_of ticks q - d)
    [ le_yes h ↦ omega arith | le_not h ↦ omega (arith, drain_total (d - e.remaining) q) ]

pub drained_total :
    (τ : Timing) (t : ℕ) (left : ℕ → ℕ) (n d : ℕ) → sum_to n (λ i. left_in i (drain d (queue_of τ t left n))) ≡ sum_to n left - d
drained_total τ t left n d =
    sym (queue_total τ t (λ i. left_in i (drain d (queue_of τ t left n))) n)
    ∙ ap (λ (q : List Pending). sum_of ticks q) (sym (drain_queue_of τ t left n d))
    ∙ drain_total d (queue_of τ t left n)
    ∙ ap (λ (x : ℕ). x - d) (queue_total τ t left n)
