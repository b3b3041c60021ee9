-- A table of speeds as the code holds it: eight numbers and a count of levels.
-- Assumes nothing.
use Rattle.std.specs.Prelude.{ℕ, ◌<◌, ◌≤◌, ◌≡◌, List, length, get_or, take}
use Rattle.plan.specs.Levels.{Rising}

-- the speeds of the levels: the first so many numbers
abbrev pub loaded : List ℕ → ℕ → List ℕ
loaded held levels = take levels held

-- a table that the code is handed: at most eight speeds, each at most 1,000, that rise from above 0
pub record Table (held : List ℕ) (levels : ℕ) : Type 0 where
  pub size : length held ≡ 8
  pub few : levels ≤ 8
  pub rising : Rising (loaded held levels)
  pub most : (level : ℕ) → level < levels → get_or held level 0 ≤ 1000
