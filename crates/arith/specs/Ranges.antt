-- The indices below a count: a list of values, whether one passes, the least value.
-- Assumes nothing.
use Rattle.std.specs.Prelude.{ℕ, zero, suc, min, Bool, true, false, List, [], ◌∷◌, ◌++◌}
use Rattle.arith.specs.Choice.{pick}

-- the least of f 0 .. f (n - 1), for n above 0
abbrev pub least_to : ℕ → (ℕ → ℕ) → ℕ
least_to zero f = f 0
least_to (suc n) f = min (least_to n f) (f n)

-- the list of f 0 .. f (n - 1)
abbrev pub list_to {ℓ} : {A : Type ℓ} → ℕ → (ℕ → A) → List A
list_to zero f = []
list_to (suc n) f = list_to n f ++ (f n ∷ [])

-- some of f 0 .. f (n - 1) passes
abbrev pub some_to : ℕ → (ℕ → Bool) → Bool
some_to zero f = false
some_to (suc n) f = pick (f n) true (some_to n f)
