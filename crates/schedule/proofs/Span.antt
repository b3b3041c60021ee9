-- A span of ticks at once, from one standing queue to the next.
-- Assumes nothing.
use Prim.Native.Nat.{ℕ, zero, suc, ◌+◌, ◌*◌, ◌/◌, ◌%◌, ◌<◌}
use mathlib.Core.Path.{◌≡◌, refl, ap, ap₂, sym, ◌∙◌, subst}
use mathlib.Core.List.{List, []}
use mathlib.Core.Logic.{◌⊎◌, inl, inr, ◌≢◌}
use native.Mathlib.Nat.{add-zero, add-suc, zero-mod, zero-div, zero-mul, div-mul-le_self}
use native.Mathlib.Decide.{ℕ_discrete}
use native.Mathlib.Omega.{arith}
use lib.Dec.{eqb}
use Rattle.arith.specs.Choice.{pick}
use Rattle.arith.proofs.Tests.{eq_yes, eq_not, test_eq}
use Rattle.schedule.specs.PlainSchedule.{Timing, Job, Pending, Book, deadline, enqueue, drain, new_job, arrive, opened, tick, after, canonical_at, latest, queue_of, left_in}
use Rattle.schedule.specs.Feasibility.{All, Fitting, In}
use Rattle.schedule.proofs.Members.{all_in, in_all}
use Rattle.schedule.proofs.Queue.{same_members}
use Rattle.schedule.proofs.Arrivals.{New, arrive_in, in_arrive, arrive_sorted}
use Rattle.schedule.proofs.Periods.{multiple_last, next_multiple}
use Rattle.schedule.proofs.Feasible.{never_late}
use Rattle.schedule.proofs.Drain.{Quiet, latest_kept, after_drain}
use Rattle.schedule.proofs.QueueLaws.{latest_pending, Stands, queue_of_in, in_queue_of, queue_of_sorted, queue_of_positive, left_none, drain_stood, drain_queue_of}

-- what each task has left once the jobs due at tick t have arrived: the new job's allotment, else what it had
abbrev pub renewed : Timing → ℕ → (ℕ → ℕ) → ℕ → ℕ
renewed τ t left i = pick (eqb (t % τ.period i) 0) (τ.allotment i) (left i)

module _ (τ : Timing) (t d n : ℕ) (left : ℕ → ℕ)
    (later : 0 < d)
    (periods : (i : ℕ) → i < n → 0 < τ.period i)
    (allotments : (i : ℕ) → i < n → 0 < τ.allotment i)
    (quiet : Quiet τ n t d)
    (closed : (i : ℕ) → i < n → (t + d) % τ.period i ≡ 0 → left i ≡ 0) where
  -- a task with an arrival at t + d has its allotment there
  due_new : (i : ℕ) → (t + d) % τ.period i ≡ 0 → renewed τ (t + d) left i ≡ τ.allotment i
  due_new i z =
      elim (test_eq ((t + d) % τ.period i) 0) as (λ b _. pick {A = ℕ} b (τ.allotment i) (left i) ≡ τ.allotment i)
      [ eq_yes h ↦ refl | eq_not h ↦ absurd (h z) ]

  -- another has what it had
  not_due_old : (i : ℕ) → (t + d) % τ.period i ≢ 0 → renewed τ (t + d) left i ≡ left i
  not_due_old i z =
      elim (test_eq ((t + d) % τ.period i) 0) as (λ b _. pick {A = ℕ} b (τ.allotment i) (left i) ≡ left i)
      [ eq_yes h ↦ absurd (z h) | eq_not h ↦ refl ]

  -- the new job is the task's entry at t + d
  fresh : (i : ℕ) → i < n → (t + d) % τ.period i ≡ 0 → new_job τ (t + d) i ≡ latest_pending τ (t + d) (renewed τ (t + d) left) i
  fresh i h z =
      λ k. record { job = record { task = i; arrival = sym (multiple_last (τ.period i) (periods i h) (t + d) z) k }; remaining = sym (due_new i z) k }

  -- the entry of a task with no arrival is the same at both ticks
  old : (i : ℕ) → i < n → (t + d) % τ.period i ≢ 0 → latest_pending τ t left i ≡ latest_pending τ (t + d) (renewed τ (t + d) left) i
  old i h z = λ k. record { job = latest_kept τ n t d i h (periods i h) quiet z k; remaining = sym (not_due_old i z) k }

  -- the entries and new jobs make up the standing queue at t + d
  to : (e : Pending) → In e (queue_of τ t left n) ⊎ New τ (t + d) n e → Stands τ (t + d) (renewed τ (t + d) left) n e
  to e (inl m) = stays (queue_of_in τ t left n e m)
    where
      stays : Stands τ t left n e → Stands τ (t + d) (renewed τ (t + d) left) n e
      stays s = elim (ℕ_discrete ((t + d) % τ.period s.number) 0) [
        | yes z ↦ absurd (omega (arith, s.some, closed s.number s.below z))
        | no z ↦ record { number = s.number; below = s.below; some = rw (not_due_old s.number z) s.some; is = s.is ∙ old s.number s.below z }
      ]
  to e (inr a) =
      record {
        number = a.number;
        below = a.below;
        some = rw (due_new a.number a.due) (allotments a.number a.below);
        is = a.is ∙ fresh a.number a.below a.due;
      }

  -- and that queue holds nothing else
  back : (e : Pending) → Stands τ (t + d) (renewed τ (t + d) left) n e → In e (queue_of τ t left n) ⊎ New τ (t + d) n e
  back e s = elim (ℕ_discrete ((t + d) % τ.period s.number) 0) [
    | yes z ↦ inr (record { number = s.number; below = s.below; due = z; is = s.is ∙ sym (fresh s.number s.below z) })
    | no z ↦
        inl (in_queue_of τ t left n e
        (record { number = s.number; below = s.below; some = rw (not_due_old s.number z) at s.some; is = s.is ∙ sym (old s.number s.below z) }))
  ]

  -- the entries of a standing queue at t arrived before t + d
  before : All (λ (e : Pending). e.job.arrival < t + d) (queue_of τ t left n)
  before = in_all (λ (e : Pending). e.job.arrival < t + d) (queue_of τ t left n) (λ e m. each e (queue_of_in τ t left n e m))
    where
      each : (e : Pending) → Stands τ t left n e → e.job.arrival < t + d
      each e s = omega (arith, ap (λ (p : Pending). p.job.arrival) s.is, div-mul-le_self t (τ.period s.number))

  -- the arrivals at t + d make of the standing queue at t the one at t + d, if nothing is left of the tasks that have one
  pub arrive_queue_of : arrive τ (t + d) n (queue_of τ t left n) ≡ queue_of τ (t + d) (renewed τ (t + d) left) n
  arrive_queue_of =
      same_members τ (arrive τ (t + d) n (queue_of τ t left n)) (queue_of τ (t + d) (renewed τ (t + d) left) n)
      (arrive_sorted τ (t + d) (queue_of τ t left n) n (queue_of_sorted τ t left n) before)
      (queue_of_sorted τ (t + d) (renewed τ (t + d) left) n)
      (λ e m. in_queue_of τ (t + d) (renewed τ (t + d) left) n e (to e (arrive_in τ (t + d) (queue_of τ t left n) n e m)))
      (λ e m. in_arrive τ (t + d) (queue_of τ t left n) n e (back e (queue_of_in τ (t + d) (renewed τ (t + d) left) n e m)))

-- ticks one after the other
pub after_add : (τ : Timing) (a b : ℕ) (k : Book) → after τ (a + b) k ≡ after τ b (after τ a k)
after_add τ a zero k = ap (λ (x : ℕ). after τ x k) (add-zero a)
after_add τ a (suc b) k = ap (λ (x : ℕ). after τ x k) (add-suc a b) ∙ ap (tick τ) (after_add τ a b k)

-- the standing queue with d ticks taken from it
abbrev pub drained : Timing → ℕ → ℕ → (ℕ → ℕ) → List Pending
drained τ t d left = drain d (queue_of τ t left τ.count)

module _ (τ : Timing) (h : ℕ) (f : Fitting τ h) (t d : ℕ) (left : ℕ → ℕ)
    (later : 0 < d)
    (quiet : Quiet τ τ.count t d)
    (here : canonical_at τ t ≡ record { clock = t; pending = queue_of τ t left τ.count }) where
  -- the ticks drain the queue, and then the jobs arrive
  reached : canonical_at τ (t + d) ≡ record { clock = t + d; pending = arrive τ (t + d) τ.count (drained τ t d left) }
  reached =
      after_add τ t d (opened τ)
      ∙ ap (after τ d) here
      ∙ after_drain τ d (record { clock = t; pending = queue_of τ t left τ.count }) later (queue_of_positive τ t left τ.count) quiet

  -- no job is late at t + d, so what is left has deadlines after it
  in_time : (e : Pending) → In e (drained τ t d left) → t + d < deadline τ e.job
  in_time e m =
      all_in (λ (x : Pending). t + d < deadline τ x.job) (arrive τ (t + d) τ.count (drained τ t d left))
      (subst (λ (b : Book). All (λ (x : Pending). t + d < deadline τ x.job) b.pending) reached (never_late τ h f (t + d)))
      e
      (in_arrive τ (t + d) (drained τ t d left) τ.count e (inl m))

  -- hence nothing is left of a task that has an arrival there
  pub nothing_old : (i : ℕ) → i < τ.count → (t + d) % τ.period i ≡ 0 → left_in i (drained τ t d left) ≡ 0
  nothing_old i k z = left_none i (drained τ t d left) none
    where
      none : (e : Pending) → In e (drained τ t d left) → e.job.task ≢ i
      none e m x =
          let j : e.job ≡ latest τ t i = (drain_stood τ t left τ.count d e m).job ∙ ap (latest τ t) x in
          let w : t + d < deadline τ (latest τ t i) = subst (λ (y : Job). t + d < deadline τ y) j (in_time e m) in
          omega (arith, next_multiple (τ.period i) (f.periods i k) t (t + d) (omega arith) z)

  -- from a standing queue over d ticks with no arrival before the last: drained, and each task with an arrival renewed
  pub canonical_span :
      canonical_at τ (t + d) ≡ record { clock = t + d; pending = queue_of τ (t + d) (renewed τ (t + d) (λ i. left_in i (drained τ t d left))) τ.count }
  canonical_span = reached ∙ (λ k. record { clock = t + d; pending = queue k })
    where
      queue : arrive τ (t + d) τ.count (drained τ t d left) ≡ queue_of τ (t + d) (renewed τ (t + d) (λ i. left_in i (drained τ t d left))) τ.count
      queue =
          ap (arrive τ (t + d) τ.count) (drain_queue_of τ t left τ.count d)
          ∙ arrive_queue_of τ t d τ.count (λ i. left_in i (drained τ t d left)) later f.periods f.allotments quiet nothing_old

-- at tick 0 each task has its allotment
pub canonical_start : (τ : Timing) (h : ℕ) → Fitting τ h → canonical_at τ 0 ≡ record { clock = 0; pending = queue_of τ 0 τ.allotment τ.count }
canonical_start τ h f = λ k. record { clock = 0; pending = go τ.count f.allotments k }
  where
    go : (n : ℕ) → ((i : ℕ) → i < n → 0 < τ.allotment i) → arrive τ 0 n [] ≡ queue_of τ 0 τ.allotment n
    go zero a = refl
    go (suc n) a =
        elim (test_eq (0 % τ.period n) 0)
        as (λ b _. pick b (enqueue τ (new_job τ 0 n) (arrive τ 0 n [])) (arrive τ 0 n []) ≡ queue_of τ 0 τ.allotment (suc n)) [
          | eq_yes z ↦
              elim (test_eq (τ.allotment n) 0)
              as (λ b _.
              enqueue τ (new_job τ 0 n) (arrive τ 0 n [])
              ≡ pick b (queue_of τ 0 τ.allotment n) (enqueue τ (latest_pending τ 0 τ.allotment n) (queue_of τ 0 τ.allotment n))) [
                | eq_yes y ↦ absurd (omega (arith, a n (omega arith)))
                | eq_not y ↦
                    ap₂ (enqueue τ) (λ k. record { job = record { task = n; arrival = start k }; remaining = τ.allotment n }) (go n (λ i x. a i (omega arith)))
              ]
          | eq_not z ↦ absurd (z (zero-mod (τ.period n)))
        ]
      where
        start : 0 ≡ 0 / τ.period n * τ.period n
        start = rw (zero-div, zero-mul)
