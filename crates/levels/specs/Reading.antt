-- What reading a level block answers: where it refuses, and as a table.
-- Assumes nothing.
use Rattle.std.specs.Prelude.{ℕ, ◌≡◌, ◌<◌, List, []}
use Rattle.arith.specs.Asking.{first_no}
use Rattle.arith.specs.Arrays.{padded}
use Rattle.plan.specs.declared.Refused.{Refused}
use Rattle.plan.specs.declared.Board.{Board}
use Rattle.plan.specs.Counted.{refused}
use Rattle.plan.specs.LevelBlocks.{loading, speeds_in}
use Rattle.levels.specs.declared.table.SpeedTable.{SpeedTable}
use Rattle.levels.specs.Held.{speeds_of}

-- a level block refused: its number "is all that is returned"
abbrev pub unloaded_with : ℕ → Board
unloaded_with n = record { answer = refused n; speeds = padded 8 0 [] }

-- a table that an accepted level block has loaded: its speeds, and zeros past them
pub record LoadedFrom (block : List ℕ) (t : SpeedTable) : Type 0 where
  pub number : first_no (loading block) ≡ 0
  pub is : speeds_of t ≡ speeds_in block
  pub padded_is : t.speeds ≡ padded 8 0 (speeds_in block)

-- the refusal of a level block: the number of its first no
pub record RefusedFor (block : List ℕ) (e : Refused) : Type 0 where
  pub positive : 0 < e.number
  pub is : first_no (loading block) ≡ e.number
