-- A list in an array of a fixed size.
-- Assumes nothing.
use Rattle.std.specs.Prelude.{ℕ, ◌-◌, List, ◌++◌, length, replicate}

-- the list from the front on, and the same value at every place past it
abbrev pub padded {ℓ} : {A : Type ℓ} → ℕ → A → List A → List A
padded size past l = l ++ replicate (size - length l) past
