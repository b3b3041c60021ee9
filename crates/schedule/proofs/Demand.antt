-- The demand of the jobs that must be closed by a bound d: what is in the queue, what is still to come, and what fits.
-- Assumes nothing.
use Prim.Native.Nat.{ℕ, suc, ◌+◌, ◌-◌, ◌*◌, ◌/◌, ◌%◌, ◌≤◌, ◌<◌}
use mathlib.Core.Path.{◌≡◌, refl, sym, ap}
use mathlib.Core.List.{List, [], ◌∷◌}
use mathlib.Core.Logic.{◌⊎◌, inl, inr}
use native.Mathlib.Nat.{mod-add-div', le-div_iff_mul-le, div-lt_iff_lt-mul, div-mul-le_self, le_of_mul-le-mul_left, mul-le-mul_left, zero-mod, zero-div, zero-mul, sub-zero}
use native.Mathlib.Omega.{arith}
use lib.Dec.{leb, eqb}
use Rattle.arith.specs.Choice.{pick}
use Rattle.arith.specs.Sum.{sum_to, sum_of}
use Rattle.arith.proofs.Tests.{le_yes, le_not, test_le, eq_yes, eq_not, test_eq}
use Rattle.arith.proofs.Sums.{sum_to_le, sum_to_eq, sum_to-add, sum_to-mul}
use Rattle.schedule.specs.PlainSchedule.{Timing, Pending, deadline, serve, new_job, arrive}
use Rattle.schedule.specs.Feasibility.{All, Fitting}
use Rattle.schedule.proofs.Urgency.{in_order}
use Rattle.schedule.proofs.Queue.{Leads, Sorted, Positive}
use Rattle.schedule.proofs.Arrivals.{arrive_sum}
use Rattle.schedule.proofs.Periods.{div_due, div_between, div_rest}

-- the ticks that an entry must have by d: all it has left where its deadline is at most d
abbrev pub owed : Timing → ℕ → Pending → ℕ
owed τ d e = pick (leb (deadline τ e.job) d) e.remaining 0

-- the ticks that a queue must have by d
abbrev pub due : Timing → ℕ → List Pending → ℕ
due τ d q = sum_of (owed τ d) q

-- the ticks of task i's jobs that arrive after t and have deadlines up to d
abbrev pub coming : Timing → ℕ → ℕ → ℕ → ℕ
coming τ d t i = τ.allotment i * (d / τ.period i - suc (t / τ.period i))

-- in an interval of d ticks the jobs that arrive and fall due in it fit
pub demand_fits : (τ : Timing) (h : ℕ) → Fitting τ h → (d : ℕ) → sum_to τ.count (λ i. τ.allotment i * (d / τ.period i)) ≤ d
demand_fits τ h f d =
    le_of_mul-le-mul_left {k = h}
    (omega (
      arith,
      sum_to-mul τ.count h (λ i. τ.allotment i * (d / τ.period i)),
      sum_to-mul τ.count d (λ i. τ.allotment i * (h / τ.period i)),
      sum_to_le τ.count (λ i. h * (τ.allotment i * (d / τ.period i))) (λ i. d * (τ.allotment i * (h / τ.period i)))
          (λ i k. one i (f.multiple i k)),
      mul-le-mul_left d f.sum,
    ))
    f.positive
  where
    one : (i : ℕ) → h % τ.period i ≡ 0 → h * (τ.allotment i * (d / τ.period i)) ≤ d * (τ.allotment i * (h / τ.period i))
    one i z =
        let e : h % τ.period i + h / τ.period i * τ.period i ≡ h = mod-add-div' h (τ.period i) in
        let g : h / τ.period i * τ.period i ≡ h = omega arith in
        let w : h * (τ.allotment i * (d / τ.period i)) ≡ h / τ.period i * τ.period i * (τ.allotment i * (d / τ.period i)) =
        ap (λ (x : ℕ). x * (τ.allotment i * (d / τ.period i))) (sym g) in
        omega (arith, mul-le-mul_left (τ.allotment i * (h / τ.period i)) (div-mul-le_self d (τ.period i)))

-- from tick t to d the jobs still to come fit
pub coming_fits : (τ : Timing) (h : ℕ) → Fitting τ h → (d t : ℕ) → t < d → sum_to τ.count (coming τ d t) + suc t ≤ d
coming_fits τ h f d t k =
    omega (
      arith,
      demand_fits τ h f (d - suc t),
      sum_to_le τ.count (coming τ d t) (λ i. τ.allotment i * ((d - suc t) / τ.period i))
          (λ i b. mul-le-mul_left (τ.allotment i) (div_rest (τ.period i) (f.periods i b) t d k)),
    )

module _ (p a d : ℕ) (h : 0 < p) where
  -- a task's k-th arrival takes its part of the demand to come into the queue, if its deadline is at most d
  kth : (k : ℕ) → pick {A = ℕ} (leb (k * p + p) d) a 0 + a * (d / p - suc k) ≡ a * (d / p - k)
  kth k =
      elim (test_le (k * p + p) d) as (λ b _. pick {A = ℕ} b a 0 + a * (d / p - suc k) ≡ a * (d / p - k)) [
        | le_yes w ↦
            let m : suc k ≤ d / p = (le-div_iff_mul-le h).1 (omega arith) in
            let z : d / p - k ≡ suc (d / p - suc k) = omega arith in
            rw z (omega arith)
        | le_not w ↦
            let m : d / p < suc k = (div-lt_iff_lt-mul h).1 (omega arith) in
            let y : d / p - suc k ≡ 0 = omega arith in
            let z : d / p - k ≡ 0 = omega arith in
            rw (y, z) (omega arith)
      ]

  -- so do the arrivals at tick 0
  first_moved : pick {A = ℕ} (eqb (0 % p) 0) (pick {A = ℕ} (leb (0 + p) d) a 0) 0 + a * (d / p - suc (0 / p)) ≡ a * (d / p)
  first_moved =
      elim (test_eq (0 % p) 0) as (λ b _. pick {A = ℕ} b (pick {A = ℕ} (leb (0 + p) d) a 0) 0 + a * (d / p - suc (0 / p)) ≡ a * (d / p))
      [ eq_yes z ↦ rw zero-div (rw (zero-mul, sub-zero) at (kth 0)) | eq_not z ↦ absurd (z (zero-mod p)) ]

  -- and those at a later tick
  moved : (s : ℕ) →
      pick {A = ℕ} (eqb (suc s % p) 0) (pick {A = ℕ} (leb (suc s + p) d) a 0) 0 + a * (d / p - suc (suc s / p)) ≡ a * (d / p - suc (s / p))
  moved s =
      elim (test_eq (suc s % p) 0)
      as (λ b _. pick {A = ℕ} b (pick {A = ℕ} (leb (suc s + p) d) a 0) 0 + a * (d / p - suc (suc s / p)) ≡ a * (d / p - suc (s / p))) [
        | eq_yes z ↦
            let q : suc s / p ≡ suc (s / p) = div_due p h s z in
            let e : suc s % p + suc s / p * p ≡ suc s = mod-add-div' (suc s) p in
            let g : suc (s / p) * p ≡ suc s = rw (← q) (omega arith) in
            rw (q, ← g) (kth (suc (s / p)))
        | eq_not z ↦ rw (div_between p h s z) (omega arith)
      ]

module _ (τ : Timing) (periods : (i : ℕ) → i < τ.count → 0 < τ.period i) (d : ℕ) where
  -- at tick 0 all demand up to d is in the queue or to come
  pub due_opened : due τ d (arrive τ 0 τ.count []) + sum_to τ.count (coming τ d 0) ≡ sum_to τ.count (λ i. τ.allotment i * (d / τ.period i))
  due_opened =
      omega (
        arith,
        arrive_sum τ 0 [] (owed τ d) τ.count,
        sum_to-add τ.count (λ i. pick {A = ℕ} (eqb (0 % τ.period i) 0) (owed τ d (new_job τ 0 i)) 0) (coming τ d 0),
        sum_to_eq τ.count (λ i. pick {A = ℕ} (eqb (0 % τ.period i) 0) (owed τ d (new_job τ 0 i)) 0 + coming τ d 0 i)
            (λ i. τ.allotment i * (d / τ.period i))
            (λ i k. first_moved (τ.period i) (τ.allotment i) d (periods i k)),
      )

  -- arrivals move demand from what is to come into the queue
  pub due_arrive : (s : ℕ) (q : List Pending) →
      due τ d (arrive τ (suc s) τ.count q) + sum_to τ.count (coming τ d (suc s)) ≡ due τ d q + sum_to τ.count (coming τ d s)
  due_arrive s q =
      omega (
        arith,
        arrive_sum τ (suc s) q (owed τ d) τ.count,
        sum_to-add τ.count (λ i. pick {A = ℕ} (eqb (suc s % τ.period i) 0) (owed τ d (new_job τ (suc s) i)) 0) (coming τ d (suc s)),
        sum_to_eq τ.count (λ i. pick {A = ℕ} (eqb (suc s % τ.period i) 0) (owed τ d (new_job τ (suc s) i)) 0 + coming τ d (suc s) i) (coming τ d s)
            (λ i k. moved (τ.period i) (τ.allotment i) d (periods i k) s),
      )

-- nothing behind an entry with a later deadline is due
none_due : (τ : Timing) (d : ℕ) (e : Pending) (q : List Pending) → Leads τ e q → d < deadline τ e.job → due τ d q ≡ 0
none_due τ d e [] l h = refl
none_due τ d e (f ∷ q) l h =
    elim (test_le (deadline τ f.job) d) as (λ b _. pick {A = ℕ} b f.remaining 0 + due τ d q ≡ 0)
    [ le_yes w ↦ absurd (omega (arith, in_order l.0)) | le_not w ↦ omega (arith, none_due τ d e q l.1 h) ]

-- a tick goes to demand that is due by d, if there is any
pub due_serve : (τ : Timing) (d : ℕ) (q : List Pending) → Sorted τ q → Positive q →
    (due τ d (serve q) ≡ 0) ⊎ (suc (due τ d (serve q)) ≡ due τ d q)
due_serve τ d [] s a = inl refl
due_serve τ d (e ∷ q) s a =
    elim (test_le e.remaining 1)
    as (λ b _. Served (pick b q (record { job = e.job; remaining = e.remaining - 1 } ∷ q))) [
      | le_yes h ↦
          elim (test_le (deadline τ e.job) d) as (λ b _. (due τ d q ≡ 0) ⊎ (suc (due τ d q) ≡ pick {A = ℕ} b e.remaining 0 + due τ d q))
          [ le_yes w ↦ inr (omega arith) | le_not w ↦ inl (none_due τ d e q s.0 w) ]
      | le_not h ↦
          elim (test_le (deadline τ e.job) d)
          as (λ b _.
          (pick {A = ℕ} b (e.remaining - 1) 0 + due τ d q ≡ 0)
          ⊎ (suc (pick {A = ℕ} b (e.remaining - 1) 0 + due τ d q) ≡ pick {A = ℕ} b e.remaining 0 + due τ d q))
          [ le_yes w ↦ inr (omega arith) | le_not w ↦ inl (omega (arith, none_due τ d e q s.0 w)) ]
    ]
  where
    Served : List Pending → Type 0
    Served r = (due τ d r ≡ 0) ⊎ (suc (due τ d r) ≡ due τ d (e ∷ q))

-- where nothing is due by d, every open entry has a deadline after d
pub none_late : (τ : Timing) (d : ℕ) (q : List Pending) → Positive q → due τ d q ≡ 0 → All (λ (e : Pending). d < deadline τ e.job) q
none_late τ d [] a = λ z. tt
none_late τ d (e ∷ q) a =
    elim (test_le (deadline τ e.job) d)
    as (λ b _. pick {A = ℕ} b e.remaining 0 + due τ d q ≡ 0 → (d < deadline τ e.job) × All (λ (f : Pending). d < deadline τ f.job) q)
    [ le_yes w ↦ λ z. absurd (omega (arith, a.0)) | le_not w ↦ λ z. (w, none_late τ d q a.1 (omega arith)) ]
