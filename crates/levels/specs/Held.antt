-- A table of speeds as the code holds it, as the list that it stands for.
-- Assumes nothing.
use Rattle.std.specs.Prelude.{ℕ, List}
use Rattle.levels.specs.declared.table.SpeedTable.{SpeedTable}
use Rattle.levels.specs.Code.{loaded}

-- the speeds of its levels
abbrev pub speeds_of : SpeedTable → List ℕ
speeds_of t = loaded t.speeds t.levels
