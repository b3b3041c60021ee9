-- The table of speeds in a state block, as the code holds it and stores it.
-- Assumes nothing.
use Rattle.std.specs.Prelude.{ℕ, ◌≡◌, Bool, true, List, [], eqb, length}
use Rattle.arith.specs.Choice.{both}
use Rattle.arith.specs.Ranges.{list_to}
use Rattle.plan.specs.LevelBlocks.{table_good}
use Rattle.levels.specs.declared.table.SpeedTable.{SpeedTable}
use Rattle.levels.specs.Code.{loaded, Table}
use Rattle.reclaiming.specs.Fields.{fields_bytes}
use Rattle.reclaiming.specs.StateBlock.{State, level_places, tail_fields, state_length, level_count, speed_in, decode}

-- whether a block has a state's length and a table that may be loaded
abbrev pub own_table : List ℕ → Bool
own_table bytes = both (eqb (length bytes) state_length) (table_good (decode bytes).speeds)

-- its table, with the numbers at all places
pub record OwnTable (bytes : List ℕ) (t : SpeedTable) : Type 0 where
  pub good : own_table bytes ≡ true
  pub levels : t.levels ≡ level_count bytes
  pub speeds : t.speeds ≡ list_to level_places (speed_in bytes)

-- numbers and a count that are a block's own table, where the block has one
pub record Owns (bytes held : List ℕ) (levels : ℕ) : Type 0 where
  pub size : length bytes ≡ state_length
  pub good : table_good (decode bytes).speeds ≡ true
  pub is : loaded held levels ≡ (decode bytes).speeds
  pub table : Table held levels

-- a state that has a table of speeds and nothing else, and the bytes that the table is written as
abbrev pub table_only : List ℕ → State
table_only speeds = record { clock = 0; task = 0; level = 0; entries = []; speeds = speeds; total = 0 }

abbrev pub table_bytes : List ℕ → List ℕ
table_bytes speeds = fields_bytes tail_fields (table_only speeds)
