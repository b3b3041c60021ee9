-- What each function finds of a job's time and rest is what the definitions give.
-- Assumes nothing.
use Prim.Native.Nat.{ℕ, suc, ◌+◌, ◌-◌, ◌*◌, ◌<◌, ◌≤◌}
use mathlib.Core.Path.{◌≡◌, sym, ap, ◌∙◌}
use mathlib.Core.Bool.{true, false}
use native.Mathlib.Nat.{mul_comm, mul-suc, mul-le-mul}
use native.Mathlib.Decide.{dec_le}
use native.Mathlib.Omega.{arith}
use borrow.Author.Tests.{leb-true, leb-false, lt-ltb, le-ltb, le-leb, lt-leb}
use lib.Dec.{leb, ltb}
use Rattle.arith.specs.Need.{need}
use Rattle.plan.specs.declared.Rest.{Rest}
use Rattle.plan.specs.Times.{time_of, worn, no_rest}
use Rattle.plan.proofs.TimeLaws.{time_fixed, time_past, time_enough}

-- a time is the fixed ticks and the quotient, rounded up
pub time_is : (speed : ℕ) (r : Rest) {n : ℕ} → n ≡ need speed r.work → r.fixed + n ≡ time_of speed r
unfolding time_of
time_is speed r e = ap (λ (k : ℕ). r.fixed + k) e

-- what a speed does in some of so many ticks fits
pub work_fits : (m n speed ticks : ℕ) → speed ≤ m → ticks ≤ n → ticks * speed ≤ n * m
work_fits m n speed ticks h k = mul-le-mul k h

-- whether some ticks are enough: not where the fixed ones are more, else by what a speed does in the others
pub enough_not : (speed ticks : ℕ) (r : Rest) → ticks < r.fixed → false ≡ leb (time_of speed r) ticks
enough_not speed ticks r l = sym (time_past speed ticks r l)

pub enough_is :
    (speed ticks : ℕ) (r : Rest) →
    0 < speed →
    r.fixed ≤ ticks →
    leb r.work (speed * (ticks - r.fixed)) ≡ leb (time_of speed r) ticks
enough_is speed ticks r h l = ap (leb r.work) (mul_comm speed (ticks - r.fixed)) ∙ sym (time_enough speed ticks r h l)

-- what is left of a job: first its fixed ticks fall, then its work
module _ (speed d : ℕ) (r : Rest) where
  pub worn_fixed : d ≤ r.fixed → ◌≡◌ {A = Rest} (record { fixed = r.fixed - d; work = r.work }) (worn speed d r)
  unfolding worn
  worn_fixed l =
      let none : d - r.fixed ≡ 0 = omega arith in
      let e : r.work ≡ r.work - (d - r.fixed) * speed = omega (arith, ap (λ (k : ℕ). k * speed) none) in
      λ i. record { fixed = r.fixed - d; work = e i }

  pub worn_none : r.fixed < d → r.work < (d - r.fixed) * speed → no_rest ≡ worn speed d r
  unfolding worn
  worn_none l h =
      let f : 0 ≡ r.fixed - d = omega arith in
      let e : 0 ≡ r.work - (d - r.fixed) * speed = omega arith in
      λ i. record { fixed = f i; work = e i }

  pub worn_some : r.fixed < d → ◌≡◌ {A = Rest} (record { fixed = 0; work = r.work - (d - r.fixed) * speed }) (worn speed d r)
  unfolding worn
  worn_some l =
      let f : 0 ≡ r.fixed - d = omega arith in
      λ i. record { fixed = f i; work = r.work - (d - r.fixed) * speed }

-- some ticks are within a time where they are among the fixed ones, or where one tick less is not enough for it: where those past the
-- fixed ones do no more than the work and less than a tick's part
pub within_fixed : (speed ticks : ℕ) (r : Rest) → ticks ≤ r.fixed → true ≡ leb ticks (time_of speed r)
within_fixed speed ticks r l = sym (le-leb ticks (time_of speed r) (omega (arith, time_fixed speed r)))

pub within_is :
    (speed ticks : ℕ) (r : Rest) →
    0 < speed →
    r.fixed < ticks →
    ltb (speed * (ticks - r.fixed)) (r.work + speed) ≡ leb ticks (time_of speed r)
within_is speed ticks r h l =
    let n : ℕ = ticks - suc r.fixed in
    let last : ticks - r.fixed ≡ suc n = omega arith in
    let less : r.fixed + n - r.fixed ≡ n = omega arith in
    let more : speed * (ticks - r.fixed) ≡ speed * n + speed = ap (λ (k : ℕ). speed * k) last ∙ mul-suc speed n in
    let test : leb r.work (speed * n) ≡ leb (time_of speed r) (r.fixed + n) =
    ap (λ (k : ℕ). leb r.work (speed * k)) (sym less) ∙ enough_is speed (r.fixed + n) r h (omega arith) in
    elim (dec_le r.work (speed * n)) [
      | yes k ↦
          let time : time_of speed r ≤ r.fixed + n = leb-true (time_of speed r) (r.fixed + n) (sym test ∙ le-leb r.work (speed * n) k) in
          le-ltb (speed * (ticks - r.fixed)) (r.work + speed) (omega (arith, more)) ∙ sym (lt-leb ticks (time_of speed r) (omega arith))
      | no k ↦
          let time : r.fixed + n < time_of speed r =
          leb-false (time_of speed r) (r.fixed + n) (sym test ∙ lt-leb r.work (speed * n) (omega arith)) in
          lt-ltb (speed * (ticks - r.fixed)) (r.work + speed) (omega (arith, more)) ∙ sym (le-leb ticks (time_of speed r) (omega arith))
    ]
