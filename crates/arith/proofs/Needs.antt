-- The laws of division rounded up, here of work at a speed. All of them come from two: it covers the work, and nothing less does.
-- Assumes nothing.
use Prim.Native.Nat.{ℕ, suc, ◌+◌, ◌-◌, ◌*◌, ◌/◌, ◌%◌, ◌<◌, ◌≤◌}
use mathlib.Core.Path.{◌≡◌, sym, subst, ap, ◌∙◌}
use native.Mathlib.Nat.{mod-add-div', mod-lt, div-lt_iff_lt-mul, le_trans, le_of_suc-le-suc, mul-le-mul_left, add-mul, lt_of_mul-lt-mul_right, suc-mul, mul-one}
use native.Mathlib.Decide.{dec_le}
use native.Mathlib.Omega.{arith}
use Rattle.arith.specs.Need.{need}

-- the time needed covers the work
pub need_covers : (s w : ℕ) → 0 < s → w ≤ need s w * s
unfolding need
need_covers s w h = omega (arith, mod-add-div' (w + (s - 1)) s, mod-lt (w + (s - 1)) h)

-- and is the least number of ticks that does
pub need_least : (s w x : ℕ) → 0 < s → w ≤ x * s → need s w ≤ x
unfolding need
need_least s w x h e =
    let below : w + (s - 1) < suc x * s = rw suc-mul (omega arith) in
    le_of_suc-le-suc ((div-lt_iff_lt-mul h).1 below)

-- so a number that covers the work with less than a tick to spare is the time needed
pub need_is : (s w x : ℕ) → 0 < s → w ≤ x * s → x * s < w + s → x ≡ need s w
need_is s w x h low high =
    let c : w ≤ need s w * s = need_covers s w h in
    let l : need s w ≤ x = need_least s w x h low in
    let u : x * s < suc (need s w) * s = rw suc-mul (omega arith) in
    let b : x < suc (need s w) = lt_of_mul-lt-mul_right s u in
    omega arith

-- more work needs no less
pub need_mono : (s v w : ℕ) → 0 < s → v ≤ w → need s v ≤ need s w
need_mono s v w h le = need_least s v (need s w) h (omega (arith, need_covers s w h))

-- a faster speed needs no more
pub need_faster : (r s w : ℕ) → 0 < r → r ≤ s → need s w ≤ need r w
need_faster r s w h le =
    need_least s w (need r w) (omega arith)
    (le_trans (need_covers r w h) (mul-le-mul_left (need r w) le))

-- no time is needed exactly where there is no work
pub need_zero : (s : ℕ) → 0 < s → need s 0 ≡ 0
need_zero s h = omega (arith, need_least s 0 0 h (omega arith))

pub need_zero_work : (s w : ℕ) → 0 < s → need s w ≡ 0 → w ≡ 0
need_zero_work s w h e =
    let c : w ≤ 0 * s = subst (λ (k : ℕ). w ≤ k * s) e (need_covers s w h) in
    omega arith

pub need_positive : (s w : ℕ) → 0 < s → 0 < w → 0 < need s w
need_positive s w h p =
    elim (dec_le 1 (need s w)) [ yes l ↦ l | no l ↦ absurd (omega (arith, need_zero_work s w h (omega arith))) ]

-- after d ticks at the speed, d ticks less are needed
pub need_after : (s w d : ℕ) → 0 < s → d ≤ need s w → need s (w - d * s) ≡ need s w - d
need_after s w d h le =
    let c : w ≤ need s w * s = need_covers s w h in
    let m : need s w - d + d ≡ need s w = omega arith in
    let e : (need s w - d) * s + d * s ≡ need s w * s =
    sym (add-mul (need s w - d) d s) ∙ ap (λ (x : ℕ). x * s) m in
    let up : need s (w - d * s) ≤ need s w - d =
    need_least s (w - d * s) (need s w - d) h (omega arith) in
    let c2 : w - d * s ≤ need s (w - d * s) * s = need_covers s (w - d * s) h in
    let e2 : (need s (w - d * s) + d) * s ≡ need s (w - d * s) * s + d * s =
    add-mul (need s (w - d * s)) d s in
    let down : need s w ≤ need s (w - d * s) + d =
    need_least s w (need s (w - d * s) + d) h (omega arith) in
    omega arith

-- a tick covers at least a unit, so the time needed is at most the work
pub need_le : (s w : ℕ) → 0 < s → need s w ≤ w
need_le s w h =
    need_least s w w h (subst (λ (k : ℕ). k ≤ w * s) (mul-one w) (mul-le-mul_left w h))

-- where the speed divides the work, the quotient is the time needed; else one tick more is
pub need_exact : (s w : ℕ) → 0 < s → w % s ≡ 0 → w / s ≡ need s w
need_exact s w h e =
    need_is s w (w / s) h (omega (arith, mod-add-div' w s)) (omega (arith, mod-add-div' w s))

pub need_more : (s w : ℕ) → 0 < s → (w % s ≡ 0 → ⊥) → w / s + 1 ≡ need s w
need_more s w h ne =
    let e : (w / s + 1) * s ≡ w / s * s + 1 * s = add-mul (w / s) 1 s in
    need_is s w (w / s + 1) h (omega (arith, mod-add-div' w s, mod-lt w h)) (omega (arith, mod-add-div' w s))
