use Rattle.ticks.proofs.draining.DrainLaws.{Asked, took_some, took_all}
use Rattle.ticks.proofs.draining.take_from.Goals.{After-remaining_at-left}
use Rattle.ticks.proofs.draining.take_from.Goals as goal

asked : (c : After-remaining_at-left) → Asked c.args.block.now c.args.i c.args.ticks c.remaining_at-left.result
asked c = record { is = c.remaining_at-left.ensures.0 }

pub returns-then-ticks-left : goal.returns-then-ticks-left
returns-then-ticks-left c =
    let all = took_some (asked (goal.at.returns-then-ticks-left c).After-remaining_at-left) c.if-ticks-left.true c.put_remaining.ensures in record {
      value = all.0;
      block_after = all.1;
    }

pub returns : goal.returns
returns c =
    let all = took_all (asked (goal.at.returns c).After-remaining_at-left) c.if-ticks-left.false c.put_remaining-2.ensures in record {
      value = all.0;
      block_after = all.1;
    }
