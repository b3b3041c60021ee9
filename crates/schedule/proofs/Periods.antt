-- Quotients by a period: how many arrivals there have been, and where the next is.
-- Assumes nothing.
use Prim.Native.Nat.{ℕ, zero, suc, ◌+◌, ◌-◌, ◌*◌, ◌/◌, ◌%◌, ◌≤◌, ◌<◌}
use mathlib.Core.Path.{◌≡◌, refl, sym, ap, ◌∙◌, subst}
use mathlib.Core.Logic.{◌≢◌}
use native.Mathlib.Nat.{add-mod_right, mod-add-div', mod-lt, mod-add-mod, mod-eq_of_lt, mod_self, le-div_iff_mul-le, lt_of_mul-lt-mul_right, le_of_mul-le-mul_right, mul-le-mul_right, add-zero, add-suc}
use native.Mathlib.Decide.{dec_le}
use native.Mathlib.Omega.{arith}
use Rattle.schedule.specs.Served.{DeadlineIsNext}

module _ (p : ℕ) (positive : 0 < p) where
  -- at an arrival the quotient rises by one
  pub div_due : (s : ℕ) → suc s % p ≡ 0 → suc s / p ≡ suc (s / p)
  div_due s h =
      let e : suc s % p + suc s / p * p ≡ suc s = mod-add-div' (suc s) p in
      let f : s % p + s / p * p ≡ s = mod-add-div' s p in
      let r : s % p < p = mod-lt s positive in
      let low : s / p < suc s / p = lt_of_mul-lt-mul_right p (omega arith) in
      let high : suc s / p ≤ suc (s / p) = le_of_mul-le-mul_right {k = p} (omega arith) positive in
      omega arith

  -- between arrivals it stays
  pub div_between : (s : ℕ) → suc s % p ≢ 0 → suc s / p ≡ s / p
  div_between s h =
      let e : suc s % p + suc s / p * p ≡ suc s = mod-add-div' (suc s) p in
      let f : s % p + s / p * p ≡ s = mod-add-div' s p in
      let low : s / p ≤ suc s / p = (le-div_iff_mul-le positive).1 (omega arith) in
      let high : suc s / p ≤ s / p = (le-div_iff_mul-le positive).1 (omega arith) in
      omega arith

  -- the arrivals after t and up to d fit between them
  pub div_rest : (t d : ℕ) → t < d → d / p - suc (t / p) ≤ (d - suc t) / p
  div_rest t d h = (le-div_iff_mul-le positive).1 (rest (d / p - suc (t / p)) (dec_le (d / p) (suc (t / p))) refl)
    where
      e : d % p + d / p * p ≡ d
      e = mod-add-div' d p

      f : t % p + t / p * p ≡ t
      f = mod-add-div' t p

      r : t % p < p
      r = mod-lt t positive

      rest : (x : ℕ) → Dec (d / p ≤ suc (t / p)) → d / p - suc (t / p) ≡ x → x * p ≤ d - suc t
      rest x (yes w) y = let z : x ≡ 0 = omega arith in rw z (omega arith)
      rest x (no w) y =
          let z : x + suc (t / p) ≡ d / p = omega arith in
          let k : (x + suc (t / p)) * p ≡ d / p * p = ap (λ (u : ℕ). u * p) z in
          omega (arith, e, f, r)

  -- a multiple is the greatest one up to itself
  pub multiple_last : (t : ℕ) → t % p ≡ 0 → t / p * p ≡ t
  multiple_last t z = let e : t % p + t / p * p ≡ t = mod-add-div' t p in omega arith

  -- the next one after t comes p - t % p ticks later; ticks that stay short of it add to the remainder
  pub mod_next : (t : ℕ) → (t + (p - t % p)) % p ≡ 0
  mod_next t =
      let e : t % p + (p - t % p) ≡ p = omega (arith, mod-lt t positive) in
      sym (mod-add-mod t p (p - t % p)) ∙ ap (λ (x : ℕ). x % p) e ∙ mod_self p

  pub mod_on : (t k : ℕ) → k < p - t % p → (t + k) % p ≡ t % p + k
  mod_on t k h = sym (mod-add-mod t p k) ∙ mod-eq_of_lt (omega arith)

  -- the next multiple after t comes a period after the last
  pub next_multiple : (t u : ℕ) → t < u → u % p ≡ 0 → t / p * p + p ≤ u
  next_multiple t u h z =
      let e : u / p * p ≡ u = multiple_last u z in
      let f : t % p + t / p * p ≡ t = mod-add-div' t p in
      let k : t / p < u / p = lt_of_mul-lt-mul_right p (omega arith) in
      omega (arith, mul-le-mul_right p k)

  -- with no multiple after t and up to t + d the last one stays
  pub quiet_last : (t d : ℕ) → ((k : ℕ) → 0 < k → k ≤ d → (t + k) % p ≢ 0) → (t + d) / p ≡ t / p
  quiet_last t zero h = ap (λ (x : ℕ). x / p) (add-zero t)
  quiet_last t (suc d) h =
      let z : t + suc d ≡ suc (t + d) = add-suc t d in
      ap (λ (x : ℕ). x / p) z
      ∙ (div_between (t + d) (subst (λ (x : ℕ). x % p ≢ 0) z (h (suc d) (omega arith) (omega arith))) ∙ quiet_last t d (λ k x y. h k x (omega arith)))

-- a job's deadline is its next arrival
pub deadline_is_next : DeadlineIsNext
deadline_is_next τ clock j positive a = record {
  later = omega (arith, positive);
  due = add-mod_right j.arrival (τ.period j.task) ∙ a.multiple;
  next = λ u h z. omega (arith, next_multiple (τ.period j.task) positive j.arrival u h z, multiple_last (τ.period j.task) positive j.arrival a.multiple);
}
