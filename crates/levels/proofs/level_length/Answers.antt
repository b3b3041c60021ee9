use mathlib.Core.Path.{sym}
use Rattle.levels.proofs.LevelLaws.{level_length_is}
use Rattle.levels.proofs.level_length.Goals as goal

pub returns : goal.returns
returns c = sym (level_length_is c.args.count)
