use native.Mathlib.Omega.{arith}
use Rattle.plan.specs.Pairs.{Pair}
use Rattle.pairs.proofs.PairSteps.{no_multiple, same_periods, other_periods}
use Rattle.pairs.proofs.periods_good.Goals.{Start}
use Rattle.pairs.proofs.periods_good.Goals as goal

abbrev pair : Start → Pair
pair c = record { earlier = c.args.earlier; later = c.args.later }

pub returns-then-second-first-ne0 : goal.returns-then-second-first-ne0
returns-then-second-first-ne0 c = no_multiple (pair (goal.at.returns-then-second-first-ne0 c).Start) c.args.first c.args.second (λ e. omega arith)

pub returns-then-first-second : goal.returns-then-first-second
returns-then-first-second c =
    same_periods (pair (goal.at.returns-then-first-second c).Start) c.args.first c.args.second (omega arith) (omega arith)

pub returns : goal.returns
returns c =
    other_periods (pair (goal.at.returns c).Start) c.args.first c.args.second (omega arith) (λ e. omega arith)
