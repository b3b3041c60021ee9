use Rattle.levels.specs.Code.{loaded}
use Rattle.orders.proofs.OrderLaws.{Timed, choose_next, choose_when}
use Rattle.orders.proofs.choosing.choose.Goals.{After-clock_at}
use Rattle.orders.proofs.choosing.choose.Goals as goal

timed : (c : After-clock_at) → Timed (loaded c.args.table.now.speeds c.args.table.now.levels) c.args.block.now c.args.keys.now c.count_at.result c.clock_at.result
timed c = record {
  holds = c.requires.holds.0;
  some = c.requires.holds.1;
  keyed = c.requires.keyed;
  same = c.count_at.ensures;
  clock_is = c.clock_at.ensures;
}

pub next_arrival-next-requires-clause-by_index : goal.next_arrival-next-requires-clause-by_index
next_arrival-next-requires-clause-by_index c = (choose_next (timed c)).1

pub choose_until-requires-clause-next_value : goal.choose_until-requires-clause-next_value
choose_until-requires-clause-next_value c =
    choose_when (timed (goal.at.choose_until-requires-clause-next_value c).After-clock_at) c.next_arrival-next.result c.next_arrival-next.ensures
