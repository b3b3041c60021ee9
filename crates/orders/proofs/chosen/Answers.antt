use mathlib.Core.Path.{◌∙◌}
use native.Mathlib.Omega.{arith}
use Prim.Native.Nat.{◌<◌}
use Rattle.levels.specs.Code.{loaded}
use Rattle.levels.proofs.Tables.{levels_are}
use Rattle.urgency.proofs.HeadLaws.{Looked, Told, first_open, told_task}
use Rattle.orders.proofs.lone.LoneLaws.{Read, next_short}
use Rattle.orders.proofs.OrderLaws.{Picked, read_loaded, enough_higher, chosen_none, chosen_small, chosen_some}
use Rattle.orders.proofs.chosen.Goals.{After-allowance_until-allowed, After-higher_of-top, After-level_for-level, After-most_urgent-best, After-task_in-i}
use Rattle.orders.proofs.chosen.Goals as goal

looked : (c : After-most_urgent-best) →
    Looked (loaded c.args.table.now.speeds c.args.table.now.levels) c.args.block.now c.args.keys.now c.args.count c.most_urgent-best.result
looked c = record {
  holds = c.requires.holds.0;
  keyed = c.requires.keyed;
  same = c.requires.holds.1;
  found = c.most_urgent-best.ensures;
}

-- its task is told
told : (c : After-task_in-i) →
    Looked (loaded c.args.table.now.speeds c.args.table.now.levels) c.args.block.now c.args.keys.now c.args.count c.most_urgent-best.result →
    Told (loaded c.args.table.now.speeds c.args.table.now.levels) c.args.block.now c.args.keys.now c.args.count c.most_urgent-best.result c.task_in-i.result
told c k = record { looked = k; some = λ e. omega (arith, e); task = c.task_in-i.ensures.0 }

read : (c : After-allowance_until-allowed) →
    Told (loaded c.args.table.now.speeds c.args.table.now.levels) c.args.block.now c.args.keys.now c.args.count c.most_urgent-best.result c.task_in-i.result →
    Read (loaded c.args.table.now.speeds c.args.table.now.levels) c.args.block.now c.args.keys.now c.args.count c.most_urgent-best.result
    c.task_in-i.result c.rest_at-rest.result c.args.next c.allowance_until-allowed.result
read c k = record {
  told = k;
  rest_in = c.rest_at-rest.ensures.0;
  arrival = c.requires.next_value;
  allowed_in = c.allowance_until-allowed.ensures.0;
}

-- the highest level that it may have is one of the table's
below : (c : After-higher_of-top) →
    Read (loaded c.args.table.now.speeds c.args.table.now.levels) c.args.block.now c.args.keys.now c.args.count c.most_urgent-best.result
    c.task_in-i.result c.rest_at-rest.result c.args.next c.allowance_until-allowed.result →
    c.higher_of-top.result < c.args.table.now.levels
below c k =
    omega (
      arith,
      c.higher_of-top.ensures,
      read_loaded k c.floor_at-floor.ensures c.requires.enough,
      c.requires.enough.level,
      levels_are c.args.table.now.known,
    )

picked : (c : After-level_for-level) →
    Read (loaded c.args.table.now.speeds c.args.table.now.levels) c.args.block.now c.args.keys.now c.args.count c.most_urgent-best.result
    c.task_in-i.result c.rest_at-rest.result c.args.next c.allowance_until-allowed.result →
    c.higher_of-top.result < c.args.table.now.levels →
    Picked (loaded c.args.table.now.speeds c.args.table.now.levels) c.args.block.now c.args.keys.now c.args.count c.most_urgent-best.result
    c.task_in-i.result c.rest_at-rest.result c.args.next c.allowance_until-allowed.result
    c.floor_at-floor.result c.level_for-level.result
picked c k h = record {
  read = k;
  floor_in = c.floor_at-floor.ensures;
  level_is = c.level_for-level.ensures.0;
  low = omega (arith, h, c.level_for-level.ensures.1, c.args.table.now.known.few);
}

pub returns-then-best-eq-NO_KEY-clause-value : goal.returns-then-best-eq-NO_KEY-clause-value
returns-then-best-eq-NO_KEY-clause-value c =
    chosen_none (looked (goal.at.returns-then-best-eq-NO_KEY-clause-value c).After-most_urgent-best) (omega arith)

pub allowance_until-allowed-requires : goal.allowance_until-allowed-requires
allowance_until-allowed-requires c =
    let at = goal.at.allowance_until-allowed-requires c in
    let k = told at.After-task_in-i (looked at.After-most_urgent-best) in (
      omega (arith, k.looked.holds.few, k.looked.same),
      k.looked.holds.size,
      omega (arith, next_short (loaded c.args.table.now.speeds c.args.table.now.levels) c.args.block.now k.looked.keyed (omega (arith, (first_open k).below)) c.requires.next_value),
    )

pub level_for-level-requires : goal.level_for-level-requires
level_for-level-requires c =
    let at = goal.at.level_for-level-requires c in
    let k = read at.After-allowance_until-allowed (told at.After-task_in-i (looked at.After-most_urgent-best)) in
    let h = below c k in record {
      bounds = (c.allowance_until-allowed.ensures.1, omega (arith, c.higher_of-top.ensures), h);
      rest_bound =
          enough_higher k c.args.table.now.known.rising c.requires.enough c.higher_of-top.result (omega (arith, c.higher_of-top.ensures))
          (omega (arith, h, levels_are c.args.table.now.known));
    }

pub running_order-requires : goal.running_order-requires
running_order-requires c =
    let at = goal.at.running_order-requires c in
    let k = read at.After-allowance_until-allowed (told at.After-task_in-i (looked at.After-most_urgent-best)) in
    let h = below at.After-higher_of-top k in
    let rest = c.rest_at-rest.ensures in (
      told_task k.told,
      omega (arith, h, c.level_for-level.ensures.1),
      omega (arith, rest.2),
      omega (arith, rest.1),
    )

pub returns : goal.returns
returns c =
    let at = goal.at.returns c in
    let k = read at.After-allowance_until-allowed (told at.After-task_in-i (looked at.After-most_urgent-best)) in
    let p = picked at.After-level_for-level k (below at.After-higher_of-top k) in record {
      value = c.running_order.ensures ∙ chosen_some p;
      task_bound = chosen_small p c.running_order.ensures;
    }
