-- Choosing by a test: one of two values, the first of a list that passes, an order by several keys.
-- Assumes nothing.
use Rattle.std.specs.Prelude.{ℕ, suc, Bool, true, false, List, [], ◌∷◌, ltb}

-- the first value where the test passed, else the second
abbrev pub pick {ℓ} : {A : Type ℓ} → Bool → A → A → A
pick true a b = a
pick false a b = b

-- both tests pass
abbrev pub both : Bool → Bool → Bool
both true b = b
both false b = false

-- the test passes at every element
abbrev pub every {ℓ} : {A : Type ℓ} → (A → Bool) → List A → Bool
every f [] = true
every f (x ∷ xs) = both (f x) (every f xs)

-- the place of the first element that passes; the list's length where none does
abbrev pub first {ℓ} : {A : Type ℓ} → (A → Bool) → List A → ℕ
first f [] = 0
first f (x ∷ xs) = pick (f x) 0 (suc (first f xs))

-- the smaller key decides; of equal keys the rest does
abbrev pub lex : ℕ → ℕ → Bool → Bool
lex m n rest = pick (ltb m n) true (pick (ltb n m) false rest)
