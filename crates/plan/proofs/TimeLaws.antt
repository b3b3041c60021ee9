-- The laws of the time that a job needs, all that is used of it: more needs no less; a faster speed needs no more; no time is needed
-- exactly where nothing is left; d ticks make it d less, and take at least d from it where they run faster. And how the code tells it, and
-- bounds it, without dividing.
-- Assumes nothing.
use Prim.Native.Nat.{ℕ, ◌+◌, ◌-◌, ◌*◌, ◌<◌, ◌≤◌}
use mathlib.Core.Path.{◌≡◌, ap, ◌∙◌}
use mathlib.Core.Bool.{false}
use native.Mathlib.Nat.{le_trans, add-mul, mul-le-mul_left, mul-le-mul_right}
use native.Mathlib.Decide.{dec_le}
use native.Mathlib.Omega.{arith}
use borrow.Author.Tests.{leb-true, le-leb, lt-leb}
use lib.Dec.{leb}
use Rattle.arith.specs.Need.{need}
use Rattle.arith.proofs.Tests.{same_test}
use Rattle.arith.proofs.Needs.{need_covers, need_least, need_mono, need_faster, need_zero, need_positive, need_after, need_le}
use Rattle.plan.specs.declared.Task.{Task}
use Rattle.plan.specs.declared.Rest.{Rest}
use Rattle.plan.specs.Times.{no_rest, Within, whole, task_time, time_of, worn}
use Rattle.plan.specs.Laws.{PlainTimes}
use Rattle.plan.proofs.Facts.{InRange}

-- 1. what has more left needs no less
pub time_more : (s : ℕ) (a b : Rest) → 0 < s → Within a b → time_of s a ≤ time_of s b
unfolding time_of
time_more s a b h w = omega (arith, w.fixed, need_mono s a.work b.work h w.work)

-- 2. a faster speed needs no more
pub time_faster : (r s : ℕ) (a : Rest) → 0 < r → r ≤ s → time_of s a ≤ time_of r a
unfolding time_of
time_faster r s a h le = omega (arith, need_faster r s a.work h le)

-- 3. a closed job needs no time, an open one some
pub time_none : (s : ℕ) → 0 < s → time_of s no_rest ≡ 0
unfolding time_of
time_none s h = omega (arith, need_zero s h)

pub time_some : (s : ℕ) (a : Rest) → 0 < s → 0 < a.work → 0 < time_of s a
unfolding time_of
time_some s a h w = omega (arith, need_positive s a.work h w)

-- 4. d ticks at the speed make it d less
pub time_after : (s d : ℕ) (a : Rest) → 0 < s → d ≤ time_of s a → time_of s (worn s d a) ≡ time_of s a - d
unfolding time_of worn
time_after s d a h le = omega (arith, need_after s a.work (d - a.fixed) h (omega arith))

-- 5. d ticks at a speed that is no slower take at least d from it
pub time_outrun : (r s d : ℕ) (a : Rest) → 0 < r → r ≤ s → d ≤ time_of s a → time_of r (worn s d a) + d ≤ time_of r a
unfolding time_of worn
time_outrun r s d a h le most =
    let x : ℕ = d - a.fixed in
    omega (
      arith,
      need_mono r (a.work - x * s) (a.work - x * r) h (omega (arith, mul-le-mul_left x le)),
      need_after r a.work x h (omega (arith, need_faster r s a.work h le)),
      need_faster r s a.work h le,
    )

-- they never leave more than there was
pub worn_within : (s d : ℕ) (a : Rest) → Within (worn s d a) a
unfolding worn
worn_within s d a = record { fixed = omega arith; work = omega arith }

-- nor nothing of a job whose time they do not fill
pub worn_open : (s d : ℕ) (a : Rest) → 0 < s → 0 < a.work → d < time_of s a → 0 < (worn s d a).work
unfolding time_of worn
worn_open s d a h w lt =
    elim (dec_le 1 (worn s d a).work) [
      | yes l ↦ l
      | no l ↦
          let z : (worn s d a).work ≡ 0 = omega arith in
          let e : need s (worn s d a).work ≡ 0 = ap (need s) z ∙ need_zero s h in
          let some : 0 < need s a.work = need_positive s a.work h w in
          absurd (omega (arith, need_after s a.work (d - a.fixed) h (omega arith)))
    ]

-- what has nothing left has no more than anything
pub none_within : (a : Rest) → Within no_rest a
none_within a = record { fixed = omega arith; work = omega arith }

pub within_trans : {a b c : Rest} → Within a b → Within b c → Within a c
within_trans v w = record { fixed = omega (arith, v.fixed, w.fixed); work = omega (arith, v.work, w.work) }

pub within_self : (a : Rest) → Within a a
within_self a = record { fixed = omega arith; work = omega arith }

-- two comparisons that hold together pass together
leb_same : (m n p q : ℕ) → (m ≤ n → p ≤ q) → (p ≤ q → m ≤ n) → leb m n ≡ leb p q
leb_same m n p q f g =
    same_test (leb m n) (leb p q) (λ h. le-leb p q (f (leb-true m n h))) (λ h. le-leb m n (g (leb-true p q h)))

-- the fixed ticks are among those that are needed
pub time_fixed : (s : ℕ) (a : Rest) → a.fixed ≤ time_of s a
unfolding time_of
time_fixed s a = omega arith

-- some ticks are not enough where the fixed ones are more, else they are where the work is at most what the others do
pub time_past : (s t : ℕ) (a : Rest) → t < a.fixed → leb (time_of s a) t ≡ false
unfolding time_of
time_past s t a l = lt-leb (time_of s a) t (omega arith)

pub time_enough : (s t : ℕ) (a : Rest) → 0 < s → a.fixed ≤ t → leb (time_of s a) t ≡ leb a.work ((t - a.fixed) * s)
unfolding time_of
time_enough s t a h l =
    let x : ℕ = t - a.fixed in
    let fits : need s a.work ≤ x → need s a.work * s ≤ x * s = λ k. mul-le-mul_right s k in
    leb_same (time_of s a) t a.work (x * s)
    (λ k. le_trans (need_covers s a.work h) (fits (omega arith)))
    (λ k. omega (arith, need_least s a.work x h k))

-- a tick at a speed does no more than so many ticks at speed 1
pub time_slowed : (s : ℕ) (a : Rest) → 0 < s → time_of 1 a ≤ time_of s a * s
unfolding time_of
time_slowed s a h =
    let n : ℕ = need s a.work in
    let apart : (a.fixed + n) * s ≡ a.fixed * s + n * s = add-mul a.fixed n s in
    let fixed : a.fixed * 1 ≤ a.fixed * s = mul-le-mul_left a.fixed h in
    omega (arith, need_least 1 a.work (n * s) (omega arith) (omega (arith, need_covers s a.work h)))

-- no time is longer than that of as many ticks as there is work
pub time_short : (s : ℕ) (a : Rest) → 0 < s → time_of s a ≤ a.fixed + a.work
unfolding time_of
time_short s a h = omega (arith, need_le s a.work h)

-- so that of a task in range is bounded by the largest worst case and the most fixed ticks
pub task_short : (s : ℕ) (t : Task) → 0 < s → InRange t → task_time s t ≤ 1048830
task_short s t h range = omega (arith, time_short s (whole t) h, range.worst_high, range.fixed_high)

-- without fixed ticks both are what 01 says
pub plain_times : PlainTimes
unfolding time_of worn
plain_times speed d r none =
    let past : d - r.fixed ≡ d = omega arith in
    (omega arith, omega arith, ap (λ (k : ℕ). r.work - k * speed) past)
