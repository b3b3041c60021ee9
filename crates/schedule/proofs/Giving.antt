-- What the plain schedule has given a job and what it has left of it are its allotment, from its arrival on.
-- Assumes nothing.
use Prim.Native.Nat.{ℕ, zero, suc, ◌+◌, ◌-◌, ◌%◌, ◌≤◌, ◌<◌}
use mathlib.Core.Path.{◌≡◌, refl, sym, ap, subst, ◌∙◌}
use mathlib.Core.Bool.{Bool, true, true≢false}
use mathlib.Core.List.{List, [], ◌∷◌}
use mathlib.Core.Logic.{◌⊎◌, ◌≢◌, inl, inr, ⊎_elim}
use native.Mathlib.Decide.{dec_le}
use native.Mathlib.Omega.{arith}
use borrow.Author.Tests.{eqb-true, eq-eqb, ne_eqb}
use lib.Dec.{eqb}
use Rattle.arith.specs.Choice.{pick, both}
use Rattle.arith.specs.Sum.{sum_to, sum_of}
use Rattle.arith.proofs.Tests.{passed, failed, tested, le_yes, le_not, test_le, eq_yes, eq_not, test_eq, both_left, both_right, both_true, both_false}
use Rattle.arith.proofs.Sums.{sum_to_eq, sum_one}
use Rattle.schedule.specs.PlainSchedule.{Timing, Job, Pending, new_job, serve, canonical_at}
use Rattle.schedule.specs.Feasibility.{In}
use Rattle.schedule.specs.Served.{Arrived, same_job, tick_for, served, AllotmentsGiven}
use Rattle.schedule.proofs.Members.{all_in}
use Rattle.schedule.proofs.Queue.{Sorted, Positive, leads_apart}
use Rattle.schedule.proofs.Arrivals.{arrive_sum}
use Rattle.schedule.proofs.Invariant.{Open, canonical_clock, canonical_good, canonical_step}
use Rattle.schedule.proofs.Feasible.{good_positive}
use Rattle.schedule.proofs.Closing.{Entered}

same_is : (a b : Job) → same_job a b ≡ true → a ≡ b
same_is a b h =
    let t : a.task ≡ b.task = eqb-true a.task b.task (both_left (eqb a.task b.task) (eqb a.arrival b.arrival) h) in
    let r : a.arrival ≡ b.arrival = eqb-true a.arrival b.arrival (both_right (eqb a.task b.task) (eqb a.arrival b.arrival) h) in
    λ i. record { task = t i; arrival = r i }

same_self : (a : Job) → same_job a a ≡ true
same_self a = both_true (eq-eqb a.task a.task refl) (eq-eqb a.arrival a.arrival refl)

-- what a queue's entry has for a job
abbrev for_job : Job → Pending → ℕ
for_job j e = pick {A = ℕ} (same_job e.job j) e.remaining 0

-- where a job has no entry a queue has nothing for it
sum_absent : (j : Job) (q : List Pending) → ((e : Pending) → In e q → e.job ≢ j) → sum_of (for_job j) q ≡ 0
sum_absent j [] none = refl
sum_absent j (e ∷ q) none =
    elim (tested (same_job e.job j)) as (λ b _. same_job e.job j ≡ b → pick {A = ℕ} b e.remaining 0 + sum_of (for_job j) q ≡ 0) [
      | passed ↦ λ h. absurd (none e (inl refl) (same_is e.job j h))
      | failed ↦ λ h. omega (arith, sum_absent j q (λ f m. none f (inr m)))
    ]
    refl

-- and where it has one, what that has
sum_entry : (τ : Timing) (q : List Pending) → Sorted τ q → (e : Pending) → In e q → sum_of (for_job e.job) q ≡ e.remaining
sum_entry τ [] s e m = absurd m
sum_entry τ (f ∷ q) s e (inl x) =
    let mine : for_job e.job f ≡ f.remaining = ap (λ (b : Bool). pick {A = ℕ} b f.remaining 0) (ap (λ (p : Pending). same_job f.job p.job) x ∙ same_self f.job) in
    let rest : sum_of (for_job e.job) q ≡ 0 = sum_absent e.job q (λ g m y. leads_apart τ f q s.0 g m (y ∙ ap (λ (p : Pending). p.job) x)) in
    omega (arith, ap (λ (p : Pending). p.remaining) x)
sum_entry τ (f ∷ q) s e (inr m) =
    elim (tested (same_job f.job e.job))
    as (λ b _. same_job f.job e.job ≡ b → pick {A = ℕ} b f.remaining 0 + sum_of (for_job e.job) q ≡ e.remaining) [
      | passed ↦ λ h. absurd (leads_apart τ f q s.0 e m (sym (same_is f.job e.job h)))
      | failed ↦ λ h. omega (arith, sum_entry τ q s.1 e m)
    ]
    refl

-- a tick is taken from the job that it is given to
tick_taken : (j : Job) (q : List Pending) → Positive q → sum_of (for_job j) (serve q) + tick_for j q ≡ sum_of (for_job j) q
tick_taken j [] some = refl
tick_taken j (e ∷ q) some =
    elim (test_le e.remaining 1)
    as (λ x _.
    sum_of (for_job j) (pick x q (record { job = e.job; remaining = e.remaining - 1 } ∷ q)) + pick {A = ℕ} (same_job e.job j) 1 0
    ≡ pick {A = ℕ} (same_job e.job j) e.remaining 0 + sum_of (for_job j) q) [
      | le_yes h ↦
          elim (tested (same_job e.job j))
          as (λ b _. sum_of (for_job j) q + pick {A = ℕ} b 1 0 ≡ pick {A = ℕ} b e.remaining 0 + sum_of (for_job j) q)
          [ passed ↦ omega (arith, some.0) | failed ↦ omega arith ]
      | le_not h ↦
          elim (tested (same_job e.job j))
          as (λ b _. (pick {A = ℕ} b (e.remaining - 1) 0 + sum_of (for_job j) q) + pick {A = ℕ} b 1 0 ≡ pick {A = ℕ} b e.remaining 0 + sum_of (for_job j) q)
          [ passed ↦ omega arith | failed ↦ omega arith ]
    ]

sum_none : (n : ℕ) (f : ℕ → ℕ) → ((i : ℕ) → f i ≡ 0) → sum_to n f ≡ 0
sum_none zero f none = refl
sum_none (suc n) f none = omega (arith, sum_none n f none, none n)

-- a job of a task of the plan, at a tick at which it may arrive
module _ (τ : Timing) (positive : (i : ℕ) → i < τ.count → 0 < τ.allotment i) (j : Job) (below : j.task < τ.count)
    (multiple : j.arrival % τ.period j.task ≡ 0) where
  -- what task i's arrival at tick t brings it
  abbrev brought : ℕ → ℕ → ℕ
  brought t i = pick {A = ℕ} (eqb (t % τ.period i) 0) (for_job j (new_job τ t i)) 0

  -- its whole allotment at its own arrival
  brought_own : sum_to τ.count (brought j.arrival) ≡ τ.allotment j.task
  brought_own =
      sum_to_eq τ.count (brought j.arrival) (λ i. pick {A = ℕ} (eqb i j.task) (τ.allotment i) 0) (λ i _. each i)
      ∙ sum_one τ.count j.task τ.allotment below
    where
      each : (i : ℕ) → brought j.arrival i ≡ pick {A = ℕ} (eqb i j.task) (τ.allotment i) 0
      each i =
          elim (test_eq i j.task)
          as (λ b _.
          pick {A = ℕ} (eqb (j.arrival % τ.period i) 0) (pick {A = ℕ} (both b (eqb j.arrival j.arrival)) (τ.allotment i) 0) 0
          ≡ pick {A = ℕ} b (τ.allotment i) 0) [
            | eq_yes e ↦
                ap (λ (b : Bool). pick {A = ℕ} b (pick {A = ℕ} (eqb j.arrival j.arrival) (τ.allotment i) 0) 0)
                (eq-eqb (j.arrival % τ.period i) 0 (ap (λ (k : ℕ). j.arrival % τ.period k) e ∙ multiple))
                ∙ ap (λ (b : Bool). pick {A = ℕ} b (τ.allotment i) 0) (eq-eqb j.arrival j.arrival refl)
            | eq_not e ↦ elim (tested (eqb (j.arrival % τ.period i) 0)) as (λ b _. pick {A = ℕ} b 0 0 ≡ 0) [ passed ↦ refl | failed ↦ refl ]
          ]

  -- and nothing at another tick
  brought_other : (t : ℕ) → t ≢ j.arrival → sum_to τ.count (brought t) ≡ 0
  brought_other t ne = sum_none τ.count (brought t) each
    where
      each : (i : ℕ) → brought t i ≡ 0
      each i =
          ap (λ (b : Bool). pick {A = ℕ} (eqb (t % τ.period i) 0) (pick {A = ℕ} b (τ.allotment i) 0) 0)
          (ap (both (eqb i j.task)) (ne_eqb t j.arrival ne) ∙ both_false (eqb i j.task))
          ∙ elim (tested (eqb (t % τ.period i) 0)) as (λ b _. pick {A = ℕ} b 0 0 ≡ 0) [ passed ↦ refl | failed ↦ refl ]

  abbrev kept : ℕ → ℕ
  kept t = served τ j t + sum_of (for_job j) (canonical_at τ t).pending

  kept_zero : kept 0 ≡ sum_to τ.count (brought 0)
  kept_zero = omega (arith, arrive_sum τ 0 [] (for_job j) τ.count)

  kept_next : (t : ℕ) → kept (suc t) ≡ sum_to τ.count (brought (suc t)) + kept t
  kept_next t =
      omega (
        arith,
        ap (sum_of (for_job j)) (canonical_step τ t),
        arrive_sum τ (suc t) (serve (canonical_at τ t).pending) (for_job j) τ.count,
        tick_taken j (canonical_at τ t).pending (good_positive τ t (canonical_at τ t).pending (canonical_good τ positive t)),
      )

  -- before its arrival it has been given nothing, and from then on it has its allotment or was given it
  kept_before : (t : ℕ) → t < j.arrival → kept t ≡ 0
  kept_before zero h = kept_zero ∙ brought_other 0 (λ e. omega arith)
  kept_before (suc t) h = omega (arith, kept_next t, brought_other (suc t) (λ e. omega arith), kept_before t (omega arith))

  kept_at : (t : ℕ) → j.arrival ≡ t → kept t ≡ τ.allotment j.task
  kept_at zero e = kept_zero ∙ ap (λ (k : ℕ). sum_to τ.count (brought k)) (sym e) ∙ brought_own
  kept_at (suc t) e =
      let own : sum_to τ.count (brought (suc t)) ≡ τ.allotment j.task = ap (λ (k : ℕ). sum_to τ.count (brought k)) (sym e) ∙ brought_own in
      omega (arith, kept_next t, kept_before t (omega arith))

  kept_since : (t : ℕ) → j.arrival ≤ t → kept t ≡ τ.allotment j.task
  kept_since zero h = kept_at zero (omega arith)
  kept_since (suc t) h =
      elim (dec_le j.arrival t) [
        | yes k ↦ omega (arith, kept_next t, brought_other (suc t) (λ e. omega arith), kept_since t k)
        | no k ↦ kept_at (suc t) (omega arith)
      ]

-- a queue has a job, or no entry of it
found : (j : Job) (q : List Pending) → Entered q j ⊎ ((e : Pending) → In e q → e.job ≢ j)
found j [] = inr (λ e m. absurd m)
found j (e ∷ q) =
    elim (tested (same_job e.job j)) as (λ b _. same_job e.job j ≡ b → Entered (e ∷ q) j ⊎ ((f : Pending) → In f (e ∷ q) → f.job ≢ j)) [
      | passed ↦ λ h. inl (e.remaining, inl (λ k. record { job = sym (same_is e.job j h) k; remaining = e.remaining }))
      | failed ↦ λ h.
          ⊎_elim (λ m. inl (m.0, inr m.1))
          (λ none. inr (λ f m x. ⊎_elim
          (λ y. true≢false (sym (same_self j) ∙ ap (λ (k : Job). same_job k j) (sym x ∙ ap (λ (p : Pending). p.job) y) ∙ h)) (λ n. none f n x) m))
          (found j q)
    ]
    refl

-- at every tick each job that has arrived is open, or was given its allotment
pub allotments_given : (τ : Timing) → ((i : ℕ) → i < τ.count → 0 < τ.allotment i) → (t : ℕ) → AllotmentsGiven τ (canonical_at τ t)
allotments_given τ positive t = subst (AllotmentsGiven τ) (λ k. record { clock = sym (canonical_clock τ t) k; pending = queue }) given
  where
    queue : List Pending
    queue = (canonical_at τ t).pending

    whole : (j : Job) → Arrived τ t j → ((e : Pending) → In e queue → e.job ≢ j) → served τ j t ≡ τ.allotment j.task
    whole j a none = omega (arith, kept_since τ positive j a.task a.multiple t a.arrival, sum_absent j queue none)

    lacks : (e : Pending) → In e queue → served τ e.job t + e.remaining ≡ τ.allotment e.job.task
    lacks e m =
        let o : Open τ t e = all_in (Open τ t) queue (canonical_good τ positive t).entries e m in
        omega (
          arith,
          kept_since τ positive e.job o.task o.multiple t o.arrived,
          sum_entry τ queue (canonical_good τ positive t).sorted e m,
        )

    given : AllotmentsGiven τ (record { clock = t; pending = queue })
    given = record {
      pending = λ j o. lacks (record { job = j; remaining = o.0 }) o.1;
      either = λ j a. ⊎_elim (λ m. inl m) (λ none. inr (whole j a none)) (found j queue);
    }
