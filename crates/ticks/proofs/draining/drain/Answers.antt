use Rattle.ticks.proofs.draining.DrainLaws.{Turn, drain_none, drain_all, drain_out, turn_less, turn_within, turn_again}
use Rattle.ticks.proofs.draining.drain.Goals.{After-take_from-ticks}
use Rattle.ticks.proofs.draining.drain.Goals as goal

turn : (c : After-take_from-ticks) →
    Turn c.args.keys.now c.args.count c.args.d c.args.block.now c.loop-ticks.block c.loop-ticks.ticks
    c.most_urgent-first.result c.task_in.result c.take_from-ticks.result
turn c = record {
  now = c.loop-ticks.invariant;
  least = c.most_urgent-first.ensures;
  some = c.if-first-eq-NO_KEY.false;
  task = c.task_in.ensures.0;
  taken = c.take_from-ticks.ensures.value;
}

pub loop-ticks-init : goal.loop-ticks-init
loop-ticks-init c = drain_none c.args.d c.requires.count_le_places.1 c.requires.by_index

pub returns-then-first-eq-NO_KEY : goal.returns-then-first-eq-NO_KEY
returns-then-first-eq-NO_KEY c = drain_out c.loop-ticks.invariant c.most_urgent-first.ensures c.if-first-eq-NO_KEY.true

pub overflow_sub-ticks : goal.overflow_sub-ticks
overflow_sub-ticks c = turn_within (turn (goal.at.overflow_sub-ticks c).After-take_from-ticks)

pub loop-ticks-smaller : goal.loop-ticks-smaller
loop-ticks-smaller c = turn_less (turn (goal.at.loop-ticks-smaller c).After-take_from-ticks) c.loop-ticks-test.true

pub loop-ticks-preserved : goal.loop-ticks-preserved
loop-ticks-preserved c = turn_again (turn (goal.at.loop-ticks-preserved c).After-take_from-ticks) c.take_from-ticks.ensures.block_after

pub returns : goal.returns
returns c = drain_all c.loop-ticks.invariant c.loop-ticks-test.false
