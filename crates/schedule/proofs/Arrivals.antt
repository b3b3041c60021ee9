-- What the arrivals at a tick do to the ready queue.
-- Assumes nothing.
use Prim.Native.Nat.{ℕ, zero, suc, ◌+◌, ◌%◌, ◌<◌}
use mathlib.Core.Path.{◌≡◌, refl, ap, subst}
use mathlib.Core.List.{List}
use mathlib.Core.Logic.{◌⊎◌, inl, inr, ◌≢◌}
use native.Mathlib.Decide.{ℕ_discrete}
use native.Mathlib.Omega.{arith}
use lib.Dec.{eqb}
use Rattle.arith.specs.Choice.{pick}
use Rattle.arith.specs.Sum.{sum_to, sum_of}
use Rattle.arith.proofs.Tests.{eq_yes, eq_not, test_eq}
use Rattle.schedule.specs.PlainSchedule.{Timing, Job, Pending, enqueue, new_job, arrive}
use Rattle.schedule.specs.Feasibility.{All, In}
use Rattle.schedule.proofs.Members.{all_in, in_all}
use Rattle.schedule.proofs.Queue.{Sorted, enqueue_in, in_enqueue, enqueue_sorted, enqueue_sum}

-- e is the new job at tick t of a task below n
pub record New (τ : Timing) (t n : ℕ) (e : Pending) : Type 0 where
  pub number : ℕ
  pub below : number < n
  pub due : t % τ.period number ≡ 0
  pub is : e ≡ new_job τ t number

module _ (τ : Timing) (t : ℕ) (q : List Pending) where
  -- a task below n is below suc n
  wider : (n : ℕ) (e : Pending) → New τ t n e → New τ t (suc n) e
  wider n e a = record { number = a.number; below = omega arith; due = a.due; is = a.is }

  -- nothing but new jobs comes into the queue
  pub arrive_in : (n : ℕ) (e : Pending) → In e (arrive τ t n q) → In e q ⊎ New τ t n e
  arrive_in zero e = λ m. inl m
  arrive_in (suc i) e =
      elim (test_eq (t % τ.period i) 0)
      as (λ b _. In e (pick b (enqueue τ (new_job τ t i) (arrive τ t i q)) (arrive τ t i q)) → In e q ⊎ New τ t (suc i) e) [
        | eq_yes h ↦
            λ m.
            elim (enqueue_in τ (new_job τ t i) (arrive τ t i q) e m)
            [ inl x ↦ inr (record { number = i; below = omega arith; due = h; is = x }) | inr k ↦ old (arrive_in i e k) ]
        | eq_not h ↦ λ m. old (arrive_in i e m)
      ]
    where
      old : In e q ⊎ New τ t i e → In e q ⊎ New τ t (suc i) e
      old (inl m) = inl m
      old (inr a) = inr (wider i e a)

  -- the new jobs are in it, and the old entries stay
  pub in_arrive : (n : ℕ) (e : Pending) → In e q ⊎ New τ t n e → In e (arrive τ t n q)
  in_arrive zero e (inl m) = m
  in_arrive zero e (inr a) = absurd (omega (arith, a.below))
  in_arrive (suc i) e m =
      elim (test_eq (t % τ.period i) 0) as (λ b _. In e (pick b (enqueue τ (new_job τ t i) (arrive τ t i q)) (arrive τ t i q))) [
        | eq_yes h ↦ in_enqueue τ (new_job τ t i) (arrive τ t i q) e (elim (split m) [ inl k ↦ inr (in_arrive i e k) | inr x ↦ inl x.1 ])
        | eq_not h ↦ elim (split m) [ inl k ↦ in_arrive i e k | inr x ↦ absurd (h x.0) ]
      ]
    where
      -- the job is task i's, or that of a lower task
      divide : (a : New τ t (suc i) e) → Dec (a.number ≡ i) → (In e q ⊎ New τ t i e) ⊎ ((t % τ.period i ≡ 0) × (e ≡ new_job τ t i))
      divide a (yes x) = inr (subst (λ (k : ℕ). t % τ.period k ≡ 0) x a.due, subst (λ (k : ℕ). e ≡ new_job τ t k) x a.is)
      divide a (no x) =
          inl (inr (record { number = a.number; below = let h : a.number < suc i = a.below in omega arith; due = a.due; is = a.is }))

      split : In e q ⊎ New τ t (suc i) e → (In e q ⊎ New τ t i e) ⊎ ((t % τ.period i ≡ 0) × (e ≡ new_job τ t i))
      split (inl k) = inl (inl k)
      split (inr a) = divide a (ℕ_discrete a.number i)

  -- new jobs find their places among older ones
  pub arrive_sorted : (n : ℕ) → Sorted τ q → All (λ (e : Pending). e.job.arrival < t) q → Sorted τ (arrive τ t n q)
  arrive_sorted zero s a = s
  arrive_sorted (suc i) s a =
      elim (test_eq (t % τ.period i) 0) as (λ b _. Sorted τ (pick b (enqueue τ (new_job τ t i) (arrive τ t i q)) (arrive τ t i q))) [
        | eq_yes h ↦
            enqueue_sorted τ (new_job τ t i) (arrive τ t i q) (arrive_sorted i s a)
            (in_all (λ (e : Pending). e.job ≢ (new_job τ t i).job) (arrive τ t i q) (λ e m. apart e (arrive_in i e m)))
        | eq_not h ↦ arrive_sorted i s a
      ]
    where
      apart : (e : Pending) → In e q ⊎ New τ t i e → e.job ≢ (new_job τ t i).job
      apart e (inl m) x = omega (arith, all_in (λ (e : Pending). e.job.arrival < t) q a e m, ap (λ (j : Job). j.arrival) x)
      apart e (inr k) x = omega (arith, ap (λ (j : Job). j.task) x, ap (λ (p : Pending). p.job.task) k.is)

  -- a sum over the queue grows by the new jobs' parts
  pub arrive_sum : (w : Pending → ℕ) (n : ℕ) →
      sum_of w (arrive τ t n q) ≡ sum_to n (λ i. pick {A = ℕ} (eqb (t % τ.period i) 0) (w (new_job τ t i)) 0) + sum_of w q
  arrive_sum w zero = omega arith
  arrive_sum w (suc i) =
      elim (test_eq (t % τ.period i) 0)
      as (λ b _.
      sum_of w (pick b (enqueue τ (new_job τ t i) (arrive τ t i q)) (arrive τ t i q))
      ≡ sum_to i (λ j. pick {A = ℕ} (eqb (t % τ.period j) 0) (w (new_job τ t j)) 0) + pick {A = ℕ} b (w (new_job τ t i)) 0 + sum_of w q)
      [ eq_yes h ↦ omega (arith, enqueue_sum τ (new_job τ t i) w (arrive τ t i q), arrive_sum w i) | eq_not h ↦ omega (arith, arrive_sum w i) ]

  -- at a tick with no arrival nothing changes
  pub arrive_none : (n : ℕ) → ((i : ℕ) → i < n → t % τ.period i ≢ 0) → arrive τ t n q ≡ q
  arrive_none zero f = refl
  arrive_none (suc i) f =
      elim (test_eq (t % τ.period i) 0) as (λ b _. pick b (enqueue τ (new_job τ t i) (arrive τ t i q)) (arrive τ t i q) ≡ q)
      [ eq_yes h ↦ absurd (f i (omega arith) h) | eq_not h ↦ arrive_none i (λ j k. f j (omega arith)) ]
