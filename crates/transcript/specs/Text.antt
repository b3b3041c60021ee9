-- Text as bytes: numbers in decimal, and words.
-- Assumes nothing.
use Rattle.std.specs.Prelude.{ℕ, zero, suc, ◌+◌, ◌/◌, ◌%◌, List, [], ◌∷◌, ◌++◌, ltb}
use Rattle.arith.specs.Choice.{pick}

-- a number in decimal, with at most so many digits before its last
abbrev pub decimal_within : ℕ → ℕ → List ℕ
decimal_within zero n = (48 + n % 10) ∷ []
decimal_within (suc more) n = pick (ltb n 10) ((48 + n) ∷ []) (decimal_within more (n / 10) ++ ((48 + n % 10) ∷ []))

-- 01: "Numbers are decimal unless marked hex": a number of at most ten digits
abbrev pub decimal : ℕ → List ℕ
decimal n = decimal_within 9 n

-- a number with a space before it, and a line's end
abbrev pub spaced : ℕ → List ℕ
spaced n = 32 ∷ decimal n

abbrev pub line_end : List ℕ
line_end = 10 ∷ []

-- "plan"
abbrev pub plan_word : List ℕ
plan_word = 112 ∷ 108 ∷ 97 ∷ 110 ∷ []

-- "run"
abbrev pub run_word : List ℕ
run_word = 114 ∷ 117 ∷ 110 ∷ []

-- "idle"
abbrev pub idle_word : List ℕ
idle_word = 105 ∷ 100 ∷ 108 ∷ 101 ∷ []

-- "refused"
abbrev pub refused_word : List ℕ
refused_word = 114 ∷ 101 ∷ 102 ∷ 117 ∷ 115 ∷ 101 ∷ 100 ∷ []
