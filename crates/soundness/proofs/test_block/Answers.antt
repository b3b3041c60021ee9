use native.Mathlib.Omega.{arith}
use Rattle.levels.specs.Code.{loaded}
use Rattle.state.proofs.BlockLaws.{count_byte}
use Rattle.soundness.proofs.SoundLaws.{count_none, count_above}
use Rattle.soundness.proofs.test_block.Goals as goal

pub returns-then-count-lt1 : goal.returns-then-count-lt1
returns-then-count-lt1 c =
    let b = c.args.block.now in
    count_none (loaded c.args.table.now.speeds c.args.table.now.levels) b (omega (arith, count_byte b))

pub returns-then-count-gt-PLACES : goal.returns-then-count-gt-PLACES
returns-then-count-gt-PLACES c =
    let b = c.args.block.now in
    count_above (loaded c.args.table.now.speeds c.args.table.now.levels) b (omega (arith, count_byte b))
