-- Sums over the jobs at least as urgent as one: the allowance, and what draining takes of it.
-- Assumes nothing.
use Prim.Native.Nat.{ℕ, zero, suc, ◌+◌, ◌-◌, ◌≤◌, ◌<◌}
use mathlib.Core.Path.{◌≡◌, refl, sym, ap, subst, ◌∙◌}
use mathlib.Core.Bool.{Bool, false}
use mathlib.Core.List.{List, [], ◌∷◌}
use native.Mathlib.Omega.{arith}
use lib.Dec.{eqb}
use Rattle.arith.specs.Choice.{pick}
use Rattle.arith.specs.Sum.{sum_to, sum_of}
use Rattle.arith.proofs.Tests.{le_yes, le_not, test_le, eq_yes, eq_not, test_eq}
use Rattle.arith.proofs.Sums.{sum_to_le, sum_to_eq, sum_to-add, part_falls, sum_one}
use Rattle.schedule.specs.PlainSchedule.{Timing, Job, Pending, more_urgent, latest, enqueue, drain, queue_of, left_in}
use Rattle.schedule.proofs.Urgency.{MoreUrgent, ahead, same, behind, compared, irreflexive, asymmetric, transitive, urgent_true, urgent_false}
use Rattle.schedule.proofs.Queue.{enqueue_sum}
use Rattle.schedule.proofs.Drain.{taken}
use Rattle.schedule.proofs.QueueLaws.{latest_pending, drain_queue_of}
use Rattle.schedule.proofs.Ahead.{left_drain}

module _ (τ : Timing) (t : ℕ) (left : ℕ → ℕ) where
  -- of what task j has left: what goes before task i's job, and what counts in the allowance of task x's
  abbrev pub before : ℕ → ℕ → ℕ
  before i j = pick (more_urgent τ (latest τ t j) (latest τ t i)) (left j) 0

  abbrev pub allowed : ℕ → ℕ → ℕ
  allowed x j = pick (more_urgent τ (latest τ t x) (latest τ t j)) 0 (left j)

  -- a job at least as urgent as x is more urgent, or x itself
  allowed_is : (x j : ℕ) → allowed x j ≡ before x j + pick {A = ℕ} (eqb j x) (left j) 0
  allowed_is x j =
      elim (test_eq j x) as (λ b _. allowed x j ≡ before x j + pick {A = ℕ} b (left j) 0) [
        | eq_yes e ↦
            let l : latest τ t j ≡ latest τ t x = ap (latest τ t) e in
            let a : more_urgent τ (latest τ t x) (latest τ t j) ≡ false =
            urgent_false τ (latest τ t x) (latest τ t j)
            (λ m. irreflexive τ (latest τ t x) (subst (λ (y : Job). MoreUrgent τ (latest τ t x) y) l m)) in
            let b : more_urgent τ (latest τ t j) (latest τ t x) ≡ false =
            urgent_false τ (latest τ t j) (latest τ t x)
            (λ m. irreflexive τ (latest τ t x) (subst (λ (y : Job). MoreUrgent τ y (latest τ t x)) l m)) in
            let u : allowed x j ≡ left j = ap (λ (v : Bool). pick {A = ℕ} v 0 (left j)) a in
            let w : before x j ≡ 0 = ap (λ (v : Bool). pick {A = ℕ} v (left j) 0) b in
            omega arith
        | eq_not e ↦
            elim (compared τ (latest τ t x) (latest τ t j)) as (λ b _. pick {A = ℕ} b 0 (left j) ≡ before x j + 0) [
              | ahead m ↦
                  let w : before x j ≡ 0 =
                  ap (λ (v : Bool). pick {A = ℕ} v (left j) 0) (urgent_false τ (latest τ t j) (latest τ t x) (asymmetric m)) in
                  omega arith
              | same m ↦ absurd (e (sym (ap (λ (y : Job). y.task) m)))
              | behind m ↦
                  let w : before x j ≡ left j =
                  ap (λ (v : Bool). pick {A = ℕ} v (left j) 0) (urgent_true τ (latest τ t j) (latest τ t x) m) in
                  omega arith
            ]
      ]

  -- so a job's allowance is its own ticks and those before it
  pub allowance_is : (n x : ℕ) → x < n → sum_to n (allowed x) ≡ sum_to n (before x) + left x
  allowance_is n x h =
      sum_to_eq n (allowed x) (λ j. before x j + pick {A = ℕ} (eqb j x) (left j) 0) (λ j _. allowed_is x j)
      ∙ sum_to-add n (before x) (λ j. pick {A = ℕ} (eqb j x) (left j) 0)
      ∙ ap (λ (y : ℕ). sum_to n (before x) + y) (sum_one n x left h)

  -- and all of it goes before any less urgent job
  pub allowance_before : (n x i : ℕ) → MoreUrgent τ (latest τ t x) (latest τ t i) → sum_to n (allowed x) ≤ sum_to n (before i)
  allowance_before n x i m = sum_to_le n (allowed x) (before i) (λ j _. each j)
    where
      full : (j : ℕ) → MoreUrgent τ (latest τ t j) (latest τ t i) → left j ≤ before i j
      full j h =
          let e : before i j ≡ left j =
          ap (λ (v : Bool). pick {A = ℕ} v (left j) 0) (urgent_true τ (latest τ t j) (latest τ t i) h) in
          omega arith

      each : (j : ℕ) → allowed x j ≤ before i j
      each j =
          elim (compared τ (latest τ t x) (latest τ t j)) as (λ b _. pick {A = ℕ} b 0 (left j) ≤ before i j) [
            | ahead h ↦ omega arith
            | same h ↦ full j (subst (λ (y : Job). MoreUrgent τ y (latest τ t i)) h m)
            | behind h ↦ full j (transitive h m)
          ]

  -- a standing queue holds what the tasks have left
  queue_of_sum : (n : ℕ) → sum_of (λ (e : Pending). e.remaining) (queue_of τ t left n) ≡ sum_to n left
  queue_of_sum zero = refl
  queue_of_sum (suc n) =
      elim (test_eq (left n) 0)
      as (λ b _.
      sum_of (λ (e : Pending). e.remaining) (pick b (queue_of τ t left n) (enqueue τ (latest_pending τ t left n) (queue_of τ t left n)))
      ≡ sum_to n left + left n) [
        | eq_yes z ↦ omega (arith, queue_of_sum n)
        | eq_not z ↦ omega (arith, queue_of_sum n, enqueue_sum τ (latest_pending τ t left n) (λ (e : Pending). e.remaining) (queue_of τ t left n))
      ]

-- d ticks take at most d of a queue
drain_sum : (d : ℕ) (q : List Pending) →
    sum_of (λ (e : Pending). e.remaining) q ≤ sum_of (λ (e : Pending). e.remaining) (drain d q) + d
drain_sum d [] = omega arith
drain_sum d (e ∷ q) =
    elim (test_le (suc d) e.remaining)
    as (λ b _.
    e.remaining + sum_of (λ (f : Pending). f.remaining) q
    ≤ sum_of (λ (f : Pending). f.remaining) (pick b (taken d e ∷ q) (drain (d - e.remaining) q)) + d) [
      | le_yes h ↦ omega arith
      | le_not h ↦ omega (arith, drain_sum (d - e.remaining) q)
    ]

module _ (τ : Timing) (t : ℕ) (left : ℕ → ℕ) (n d : ℕ) where
  -- what d ticks leave of task i
  abbrev pub drained_to : ℕ → ℕ
  drained_to i = left_in i (drain d (queue_of τ t left n))

  pub drained_le : (i : ℕ) → i < n → drained_to i ≤ left i
  drained_le i h = omega (arith, left_drain τ t left n d i h)

  -- they take at most d in all
  pub drained_sum : sum_to n left ≤ sum_to n drained_to + d
  drained_sum =
      omega (
        arith,
        queue_of_sum τ t left n,
        drain_sum d (queue_of τ t left n),
        ap (λ (q : List Pending). sum_of (λ (e : Pending). e.remaining) q) (drain_queue_of τ t left n d),
        queue_of_sum τ t drained_to n,
      )

  -- so at most d of any part
  pub drained_part : (b : ℕ → Bool) → sum_to n (λ j. pick {A = ℕ} (b j) 0 (left j)) ≤ sum_to n (λ j. pick {A = ℕ} (b j) 0 (drained_to j)) + d
  drained_part b = omega (arith, part_falls n b left drained_to drained_le, drained_sum)
