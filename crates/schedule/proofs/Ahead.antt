-- What d ticks leave of a task: they go first to the jobs ahead of it.
-- Assumes nothing.
use Prim.Native.Nat.{ℕ, zero, suc, ◌+◌, ◌-◌, ◌<◌}
use mathlib.Core.Path.{◌≡◌, refl, ap, ap₂, sym, ◌∙◌, subst}
use mathlib.Core.Bool.{Bool, true, false}
use mathlib.Core.List.{List, [], ◌∷◌}
use mathlib.Core.Logic.{◌≢◌, inl, inr}
use native.Mathlib.Decide.{ℕ_discrete}
use native.Mathlib.Omega.{arith}
use Rattle.arith.specs.Choice.{pick}
use Rattle.arith.specs.Sum.{sum_to, sum_of}
use Rattle.arith.proofs.Tests.{le_yes, le_not, test_le, eq_yes, eq_not, test_eq}
use Rattle.schedule.specs.PlainSchedule.{Timing, Job, Pending, more_urgent, enqueue, drain, latest, queue_of, left_in}
use Rattle.schedule.specs.Feasibility.{In}
use Rattle.schedule.proofs.Urgency.{MoreUrgent, ahead, same, behind, compared, irreflexive, asymmetric, urgent_false}
use Rattle.schedule.proofs.Queue.{Leads, Sorted, leads_in, enqueue_sum}
use Rattle.schedule.proofs.Drain.{taken}
use Rattle.schedule.proofs.QueueLaws.{latest_pending, Stands, queue_of_in, queue_of_sorted, left_mine, left_other, left_none, left_queue_of}

-- the ticks that an entry takes before job j gets one
abbrev pub before : Timing → Job → Pending → ℕ
before τ j e = pick (more_urgent τ e.job j) e.remaining 0

-- nothing behind a leading entry is ahead of its job
none_before : (τ : Timing) (e : Pending) (q : List Pending) → Leads τ e q → sum_of (before τ e.job) q ≡ 0
none_before τ e [] l = refl
none_before τ e (f ∷ q) l =
    elim (compared τ f.job e.job) as (λ b _. pick {A = ℕ} b f.remaining 0 + sum_of (before τ e.job) q ≡ 0)
    [ ahead h ↦ absurd (asymmetric l.0 h) | same h ↦ omega (arith, none_before τ e q l.1) | behind h ↦ omega (arith, none_before τ e q l.1) ]

-- an entry takes nothing ahead of its own job
not_before : (τ : Timing) (e : Pending) → before τ e.job e ≡ 0
not_before τ e = ap (λ (b : Bool). pick {A = ℕ} b e.remaining 0) (urgent_false τ e.job e.job (irreflexive τ e.job))

-- the law of what is left, at a queue with head e of which b ticks are ahead of job j
abbrev Holds : Timing → ℕ → Job → ℕ → Pending → List Pending → ℕ → Type 0
Holds τ i j d e q b = left_in i (drain d (e ∷ q)) ≡ left_in i (e ∷ q) - (d - (b + sum_of (before τ j) q))

-- the three kinds of head, given the law behind it: the task's own entry, one ahead of it, or one with none of the task behind it
module _ (τ : Timing) (i : ℕ) (j : Job) (d : ℕ) (e : Pending) (q : List Pending)
    (rest : left_in i (drain (d - e.remaining) q) ≡ left_in i q - (d - e.remaining - sum_of (before τ j) q)) where
  own_head : e.job.task ≡ i → left_in i q ≡ 0 → sum_of (before τ j) q ≡ 0 → Holds τ i j d e q 0
  own_head x none first =
      elim (test_le (suc d) e.remaining)
      as (λ b _. left_in i (pick b (taken d e ∷ q) (drain (d - e.remaining) q)) ≡ left_in i (e ∷ q) - (d - (0 + sum_of (before τ j) q)))
      [ le_yes h ↦ omega (arith, left_mine i (taken d e) q x, left_mine i e q x) | le_not h ↦ omega (arith, left_mine i e q x) ]

  other_ahead : e.job.task ≢ i → Holds τ i j d e q e.remaining
  other_ahead x =
      elim (test_le (suc d) e.remaining)
      as (λ b _. left_in i (pick b (taken d e ∷ q) (drain (d - e.remaining) q)) ≡ left_in i (e ∷ q) - (d - (e.remaining + sum_of (before τ j) q)))
      [ le_yes h ↦ omega (arith, left_other i (taken d e) q x, left_other i e q x) | le_not h ↦ omega (arith, left_other i e q x) ]

  other_behind : e.job.task ≢ i → left_in i q ≡ 0 → Holds τ i j d e q 0
  other_behind x none =
      elim (test_le (suc d) e.remaining)
      as (λ b _. left_in i (pick b (taken d e ∷ q) (drain (d - e.remaining) q)) ≡ left_in i (e ∷ q) - (d - (0 + sum_of (before τ j) q)))
      [ le_yes h ↦ omega (arith, left_other i (taken d e) q x, left_other i e q x) | le_not h ↦ omega (arith, left_other i e q x) ]

-- d ticks leave of a task whose entry has job j what they do not spend on the entries ahead of j
left_sorted : (τ : Timing) (i : ℕ) (j : Job) (d : ℕ) (q : List Pending) → Sorted τ q → ((e : Pending) → In e q → e.job.task ≡ i → e.job ≡ j) →
    left_in i (drain d q) ≡ left_in i q - (d - sum_of (before τ j) q)
left_sorted τ i j d [] s a = omega arith
left_sorted τ i j d (e ∷ q) s a = go (ℕ_discrete e.job.task i) (left_sorted τ i j (d - e.remaining) q s.1 (λ f m. a f (inr m)))
  where
    -- an entry of the task in q has job j, so the head is ahead of j
    absent : (MoreUrgent τ e.job j → ⊥) → left_in i q ≡ 0
    absent h = left_none i q (λ f m x. h (subst (λ (k : Job). MoreUrgent τ e.job k) (a f (inr m) x) (leads_in τ e q s.0 f m)))

    go : Dec (e.job.task ≡ i) → left_in i (drain (d - e.remaining) q) ≡ left_in i q - (d - e.remaining - sum_of (before τ j) q) →
        left_in i (drain d (e ∷ q)) ≡ left_in i (e ∷ q) - (d - (before τ j e + sum_of (before τ j) q))
    go (yes x) rest =
        let y : e.job ≡ j = a e (inl refl) x in
        let z : before τ j e ≡ 0 = subst (λ (k : Job). before τ k e ≡ 0) y (not_before τ e) in
        let first : sum_of (before τ j) q ≡ 0 = subst (λ (k : Job). sum_of (before τ k) q ≡ 0) y (none_before τ e q s.0) in
        let none : left_in i q ≡ 0 = absent (λ h. irreflexive τ j (subst (λ (k : Job). MoreUrgent τ k j) y h)) in
        subst (Holds τ i j d e q) (sym z) (own_head τ i j d e q rest x none first)
    go (no x) rest =
        elim (compared τ e.job j) as (λ b _. Holds τ i j d e q (pick b e.remaining 0)) [
          | ahead h ↦ other_ahead τ i j d e q rest x
          | same h ↦ other_behind τ i j d e q rest x (absent (λ k. irreflexive τ j (subst (λ (u : Job). MoreUrgent τ u j) h k)))
          | behind h ↦ other_behind τ i j d e q rest x (absent (asymmetric h))
        ]

-- the ticks ahead of a job in a standing queue, task by task
before_queue_of : (τ : Timing) (t : ℕ) (left : ℕ → ℕ) (j : Job) (n : ℕ) →
    sum_of (before τ j) (queue_of τ t left n) ≡ sum_to n (λ k. pick {A = ℕ} (more_urgent τ (latest τ t k) j) (left k) 0)
before_queue_of τ t left j zero = refl
before_queue_of τ t left j (suc n) =
    elim (test_eq (left n) 0)
    as (λ b _.
    sum_of (before τ j) (pick b (queue_of τ t left n) (enqueue τ (latest_pending τ t left n) (queue_of τ t left n)))
    ≡ sum_to n (λ k. pick {A = ℕ} (more_urgent τ (latest τ t k) j) (left k) 0) + before τ j (latest_pending τ t left n)) [
      | eq_yes z ↦ omega (arith, before_queue_of τ t left j n, nothing (more_urgent τ (latest τ t n) j) z)
      | eq_not z ↦ omega (arith, before_queue_of τ t left j n, enqueue_sum τ (latest_pending τ t left n) (before τ j) (queue_of τ t left n))
    ]
  where
    nothing : (b : Bool) → left n ≡ 0 → pick {A = ℕ} b (left n) 0 ≡ 0
    nothing true z = z
    nothing false z = refl

-- of a task's remaining ticks, d ticks leave what they do not spend on the tasks that are more urgent
pub left_drain : (τ : Timing) (t : ℕ) (left : ℕ → ℕ) (n d i : ℕ) → i < n →
    left_in i (drain d (queue_of τ t left n)) ≡ left i - (d - sum_to n (λ j. pick {A = ℕ} (more_urgent τ (latest τ t j) (latest τ t i)) (left j) 0))
left_drain τ t left n d i h =
    left_sorted τ i (latest τ t i) d (queue_of τ t left n) (queue_of_sorted τ t left n) job
    ∙ ap₂ (λ (x y : ℕ). x - (d - y)) (left_queue_of τ t left n i h) (before_queue_of τ t left (latest τ t i) n)
  where
    job : (e : Pending) → In e (queue_of τ t left n) → e.job.task ≡ i → e.job ≡ latest τ t i
    job e m x =
        let s : Stands τ t left n e = queue_of_in τ t left n e m in
        let k : s.number ≡ i = sym (ap (λ (p : Pending). p.job.task) s.is) ∙ x in
        ap (λ (p : Pending). p.job) s.is ∙ ap (latest τ t) k
