use native.Mathlib.Omega.{arith}
use Rattle.levels.proofs.reading.Loading.{load_empty, load_low, load_high}
use Rattle.levels.proofs.reading.read_levels.Goals as goal

pub returns-then-block-lt1 : goal.returns-then-block-lt1
returns-then-block-lt1 c = load_empty c.args.block.now c.unloaded.ensures (omega arith)

pub returns-then-count-lt1 : goal.returns-then-count-lt1
returns-then-count-lt1 c = load_low c.args.block.now c.unloaded-then-count-lt1.ensures c.bits_at-count.ensures (omega arith)

pub returns-then-count-gt8 : goal.returns-then-count-gt8
returns-then-count-gt8 c = load_high c.args.block.now c.unloaded-then-count-gt8.ensures c.bits_at-count.ensures (omega arith)
