-- What writing, showing and asking about pairs answer, as C sees it: the answer fits one number.
-- Assumes nothing.
use Prim.Native.Nat.{ℕ, zero, suc, ◌^◌, ◌<◌, ◌≤◌}
use mathlib.Core.Path.{◌≡◌, refl}
use native.Mathlib.Omega.{arith}
use Rattle.plan.specs.Counted.{counted_by, counted_number}

-- a refusal's number is small, and so is the count
pub counted_most : (n count : ℕ) → n ≤ 255 → (n ≡ 0 → count ≤ 255) → counted_number (counted_by n count) < 2 ^ 36
counted_most zero count h f = omega (arith, f refl)
counted_most (suc n) count h f = omega arith
