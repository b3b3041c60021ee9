use mathlib.Core.List.{[]}
use native.Mathlib.Omega.{arith}
use borrow.Author.Rules.{rules}
use lib.ListN.{get_or}
use Rattle.arith.proofs.Loops.{length_mapped}
use Rattle.plan.specs.Pairs.{Pair}
use Rattle.plan.proofs.Held.{Ranged, task_at_lem}
use Rattle.pairs.proofs.PairSteps.{pair_of, looked_none}
use Rattle.pairs.proofs.each_good.Goals.{At-loop-pair, Start}
use Rattle.pairs.proofs.each_good.Goals as goal

plan : (c : Start) → Ranged c.args.p
plan c = record { held = record { places = search (length_mapped, rules); most = c.requires.0 }; ranges = c.requires.1 }

-- the pair of this turn
abbrev pair : At-loop-pair → Pair
pair c = pair_of (get_or c.as_chunks.result.0.now c.loop-pair.pair-index [])

pub loop-pair-init : goal.loop-pair-init
loop-pair-init c = looked_none c.requires.2 c.as_chunks.ensures.front

pub periods_good-requires : goal.periods_good-requires
periods_good-requires c = (
  (task_at_lem (plan (goal.at.periods_good-requires c).Start) (pair (goal.at.periods_good-requires c).At-loop-pair).earlier (omega (arith, c.if-p-earlier.false))).period_low,
  (task_at_lem (plan (goal.at.periods_good-requires c).Start) (pair (goal.at.periods_good-requires c).At-loop-pair).later (omega (arith, c.if-p-later.false))).period_low,
)
