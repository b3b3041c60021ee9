-- What the plain schedule owes: in a plan that some level admits, every job whose deadline has come is closed.
-- Assumes nothing.
use Rattle.std.specs.Prelude.{ℕ, ◌+◌, ◌*◌, ◌/◌, ◌%◌, ◌<◌, ◌≤◌, ◌≡◌, List, [], ◌∷◌, ◌⊎◌}
use Rattle.arith.specs.Sum.{sum_to}
use Rattle.schedule.specs.PlainSchedule.{Timing, Pending, deadline, canonical_at}

-- P holds of every element
abbrev pub All {ℓ} : {A : Type ℓ} → (A → Type 0) → List A → Type 0
All P [] = Unit {0}
All P (x ∷ xs) = P x × All P xs

-- x is an element of a list
abbrev pub In : {A : Type 0} → A → List A → Type 0
In x [] = ⊥
In x (y ∷ ys) = (x ≡ y) ⊎ In x ys

-- over a common multiple of the periods, the jobs' allotments fit (01: a level admits the plan)
pub record Fitting (τ : Timing) (hyperperiod : ℕ) : Type 0 where
  pub positive : 0 < hyperperiod
  pub periods : (i : ℕ) → i < τ.count → 0 < τ.period i
  pub allotments : (i : ℕ) → i < τ.count → 0 < τ.allotment i
  pub multiple : (i : ℕ) → i < τ.count → hyperperiod % τ.period i ≡ 0
  pub sum : sum_to τ.count (λ i. τ.allotment i * (hyperperiod / τ.period i)) ≤ hyperperiod

-- 01, demand 3, of the plain schedule: a job's "deadline has come when it is at most the clock", and then it is closed
abbrev pub NeverLate : Timing → Type 0
NeverLate τ = (t : ℕ) → All (λ (e : Pending). t < deadline τ e.job) (canonical_at τ t).pending
