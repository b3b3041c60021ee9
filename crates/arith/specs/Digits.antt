-- Numbers as digits, most significant first: bits are digits in base 2, and 01's "Numbers have their most significant byte first"
-- is digits in base 256.
-- Assumes nothing.
use Rattle.std.specs.Prelude.{ℕ, zero, suc, ◌+◌, ◌*◌, ◌/◌, ◌%◌, List, [], ◌∷◌, ◌++◌, get_or}

-- the number that the first n digits of a list are; a digit past the list's end is 0
abbrev pub number : ℕ → ℕ → List ℕ → ℕ
number base zero ds = 0
number base (suc n) ds = number base n ds * base + get_or ds n 0

-- the n lowest digits of a number
abbrev pub digits : ℕ → ℕ → ℕ → List ℕ
digits base zero x = []
digits base (suc n) x = digits base n (x / base) ++ (x % base ∷ [])
