use native.Mathlib.Omega.{arith}
use Rattle.plan.specs.Blocks.{tasks_of}
use Rattle.pairs.proofs.PairSteps.{too_long, odd_byte, by_each}
use Rattle.pairs.proofs.pairs_good.Goals as goal

pub returns-then-pairs-gt32 : goal.returns-then-pairs-gt32
returns-then-pairs-gt32 c =
    too_long (tasks_of c.args.p) c.args.pairs.now (omega arith)

pub returns-then-pairs-ne0 : goal.returns-then-pairs-ne0
returns-then-pairs-ne0 c =
    odd_byte (tasks_of c.args.p) c.args.pairs.now (omega arith) (λ e. omega arith)

pub returns : goal.returns
returns c =
    by_each (tasks_of c.args.p) c.args.pairs.now (omega arith) (omega arith) c.each_good.ensures
