-- What holds of the ready queue at every tick.
-- Assumes nothing.
use Prim.Native.Nat.{ℕ, zero, suc, ◌-◌, ◌%◌, ◌≤◌, ◌<◌}
use mathlib.Core.Path.{◌≡◌, refl, ap, sym, subst}
use mathlib.Core.List.{List, [], ◌∷◌}
use mathlib.Core.Logic.{◌⊎◌, inl, inr}
use native.Mathlib.Omega.{arith}
use Rattle.arith.specs.Choice.{pick}
use Rattle.arith.proofs.Tests.{le_yes, le_not, test_le}
use Rattle.schedule.specs.PlainSchedule.{Timing, Pending, Book, serve, arrive, opened, tick, canonical_at}
use Rattle.schedule.specs.Feasibility.{All, In}
use Rattle.schedule.proofs.Members.{all_in, in_all}
use Rattle.schedule.proofs.Queue.{Sorted, serve_sorted}
use Rattle.schedule.proofs.Arrivals.{New, arrive_in, arrive_sorted}

-- an entry of a task of the plan that has arrived by tick t, and is neither closed nor above its allotment
pub record Open (τ : Timing) (t : ℕ) (e : Pending) : Type 0 where
  pub some : 0 < e.remaining
  pub most : e.remaining ≤ τ.allotment e.job.task
  pub task : e.job.task < τ.count
  pub arrived : e.job.arrival ≤ t
  pub multiple : e.job.arrival % τ.period e.job.task ≡ 0

-- the ready queue at tick t
pub record Good (τ : Timing) (t : ℕ) (q : List Pending) : Type 0 where
  pub sorted : Sorted τ q
  pub entries : All (Open τ t) q

-- an open entry that is not served stays open
open_later : (τ : Timing) (t : ℕ) (e : Pending) → Open τ t e → Open τ (suc t) e
open_later τ t e o =
    record { some = o.some; most = o.most; task = o.task; arrived = let h : e.job.arrival ≤ t = o.arrived in omega arith; multiple = o.multiple }

-- a tick leaves open entries open
serve_open : (τ : Timing) (t : ℕ) (q : List Pending) → All (Open τ t) q → All (Open τ t) (serve q)
serve_open τ t [] a = tt
serve_open τ t (e ∷ q) a =
    elim (test_le e.remaining 1) as (λ b _. All (Open τ t) (pick b q (record { job = e.job; remaining = e.remaining - 1 } ∷ q))) [
      | le_yes h ↦ a.1
      | le_not h ↦ (
        record { some = omega arith; most = omega (arith, a.0.most); task = a.0.task; arrived = a.0.arrived; multiple = a.0.multiple },
        a.1,
      )
    ]

module _ (τ : Timing) (allotments : (i : ℕ) → i < τ.count → 0 < τ.allotment i) where
  -- the jobs that arrive are open, and the queue takes them in their places
  arrive_good : (t : ℕ) (q : List Pending) → Sorted τ q → All (Open τ t) q → All (λ (e : Pending). e.job.arrival < t) q →
      Good τ t (arrive τ t τ.count q)
  arrive_good t q s a b =
      record {
        sorted = arrive_sorted τ t q τ.count s b;
        entries = in_all (Open τ t) (arrive τ t τ.count q) (λ e m. each e (arrive_in τ t q τ.count e m));
      }
    where
      each : (e : Pending) → In e q ⊎ New τ t τ.count e → Open τ t e
      each e (inl m) = all_in (Open τ t) q a e m
      each e (inr n) =
          subst (Open τ t) (sym n.is)
          (record { some = allotments n.number n.below; most = omega arith; task = n.below; arrived = omega arith; multiple = n.due })

  -- so it is at tick 0
  opened_good : Good τ 0 (opened τ).pending
  opened_good = arrive_good 0 [] tt tt tt

  -- after a tick
  tick_good : (b : Book) → Good τ b.clock b.pending → Good τ (suc b.clock) (tick τ b).pending
  tick_good b g =
      let o : All (Open τ b.clock) (serve b.pending) = serve_open τ b.clock b.pending g.entries in
      arrive_good (suc b.clock) (serve b.pending) (serve_sorted τ b.pending g.sorted)
      (in_all (Open τ (suc b.clock)) (serve b.pending)
      (λ e m. open_later τ b.clock e (all_in (Open τ b.clock) (serve b.pending) o e m)))
      (in_all (λ (e : Pending). e.job.arrival < suc b.clock) (serve b.pending)
      (λ e m. omega (arith, (all_in (Open τ b.clock) (serve b.pending) o e m).arrived)))

  -- and after any number of ticks
  good : (t : ℕ) → Good τ (canonical_at τ t).clock (canonical_at τ t).pending
  good zero = opened_good
  good (suc t) = tick_good (canonical_at τ t) (good t)

-- the clock counts the ticks
pub canonical_clock : (τ : Timing) (t : ℕ) → (canonical_at τ t).clock ≡ t
canonical_clock τ zero = refl
canonical_clock τ (suc t) = ap suc (canonical_clock τ t)

-- the plain schedule keeps its ready queue in order, with open entries only
pub canonical_good : (τ : Timing) → ((i : ℕ) → i < τ.count → 0 < τ.allotment i) → (t : ℕ) → Good τ t (canonical_at τ t).pending
canonical_good τ f t = subst (λ (k : ℕ). Good τ k (canonical_at τ t).pending) (canonical_clock τ t) (good τ f t)

-- from one tick to the next
pub canonical_step : (τ : Timing) (t : ℕ) → (canonical_at τ (suc t)).pending ≡ arrive τ (suc t) τ.count (serve (canonical_at τ t).pending)
canonical_step τ t = ap (λ (k : ℕ). arrive τ (suc k) τ.count (serve (canonical_at τ t).pending)) (canonical_clock τ t)
