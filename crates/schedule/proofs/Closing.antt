-- A job that the plain schedule has closed stays closed: one that is open at a tick was open at every tick since its arrival.
-- Assumes nothing.
use Prim.Native.Nat.{ℕ, zero, suc, ◌+◌, ◌-◌, ◌%◌, ◌≤◌, ◌<◌}
use mathlib.Core.Path.{◌≡◌, refl, sym, ap, subst}
use mathlib.Core.List.{List, [], ◌∷◌}
use mathlib.Core.Logic.{◌⊎◌, inl, inr, ⊎_elim}
use native.Mathlib.Omega.{arith}
use Rattle.arith.specs.Choice.{pick}
use Rattle.arith.proofs.Tests.{passed, failed, tested}
use Rattle.schedule.specs.PlainSchedule.{Timing, Job, Pending, new_job, serve, arrive, canonical_at}
use Rattle.schedule.specs.Feasibility.{In}
use Rattle.schedule.proofs.Arrivals.{New, arrive_in, in_arrive}
use Rattle.schedule.proofs.Invariant.{canonical_step}
use lib.Dec.{leb}

-- a job has an entry in a queue
abbrev pub Entered : List Pending → Job → Type 0
Entered q j = (left : ℕ) × In (record { job = j; remaining = left }) q

-- a tick brings none in
serve_was : (j : Job) (q : List Pending) → Entered (serve q) j → Entered q j
serve_was j [] = λ m. m
serve_was j (e ∷ q) =
    elim (tested (leb e.remaining 1))
    as (λ b _. Entered (pick b q (record { job = e.job; remaining = e.remaining - 1 } ∷ q)) j → Entered (e ∷ q) j) [
      | passed ↦ λ m. (m.0, inr m.1)
      | failed ↦ λ m. ⊎_elim (λ x. (e.remaining, inl (λ k. record { job = (x k).job; remaining = e.remaining }))) (λ n. (m.0, inr n)) m.1
    ]

-- at an earlier tick since its arrival
pub entered_before :
    (τ : Timing) (j : Job) (t d : ℕ) → j.arrival ≤ t → Entered (canonical_at τ (t + d)).pending j → Entered (canonical_at τ t).pending j
entered_before τ j t zero h m = let same : t + 0 ≡ t = omega arith in subst (λ (k : ℕ). Entered (canonical_at τ k).pending j) same m
entered_before τ j t (suc d) h m = entered_before τ j t d h (serve_was j (canonical_at τ (t + d)).pending (old (arrive_in τ now served τ.count entry here)))
  where
    now : ℕ
    now = suc (t + d)

    served : List Pending
    served = serve (canonical_at τ (t + d)).pending

    entry : Pending
    entry = record { job = j; remaining = m.0 }

    here : In entry (arrive τ now τ.count served)
    here =
        let same : t + suc d ≡ now = omega arith in
        subst (In entry) (canonical_step τ (t + d)) (subst (λ (k : ℕ). In entry (canonical_at τ k).pending) same m.1)

    old : In entry served ⊎ New τ now τ.count entry → Entered served j
    old (inl n) = (m.0, n)
    old (inr n) = absurd (omega (arith, ap (λ (e : Pending). e.job.arrival) n.is))

-- a job is open at the tick at which it arrives
pub entered_new :
    (τ : Timing) (j : Job) → j.task < τ.count → j.arrival % τ.period j.task ≡ 0 → Entered (canonical_at τ j.arrival).pending j
entered_new τ j below due = (τ.allotment j.task, go j.arrival refl)
  where
    new : Pending
    new = new_job τ j.arrival j.task

    arrives : (t : ℕ) → j.arrival ≡ t → New τ t τ.count new
    arrives t e = record {
      number = j.task;
      below = below;
      due = subst (λ (k : ℕ). k % τ.period j.task ≡ 0) e due;
      is = ap (λ (k : ℕ). new_job τ k j.task) e;
    }

    go : (t : ℕ) → j.arrival ≡ t → In new (canonical_at τ t).pending
    go zero e = in_arrive τ 0 [] τ.count new (inr (arrives 0 e))
    go (suc t) e =
        subst (In new) (sym (canonical_step τ t))
        (in_arrive τ (suc t) (serve (canonical_at τ t).pending) τ.count new (inr (arrives (suc t) e)))
