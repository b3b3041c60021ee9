use mathlib.Core.List.{List}
use Prim.Native.Nat.{ℕ}
use native.Mathlib.Omega.{arith}
use Rattle.levels.specs.Code.{loaded}
use Rattle.levels.proofs.Tables.{speed_most}
use Rattle.ticks.proofs.draining.WorkLaws.{Running, Working, worked_idle, worked_done, worked_fallen}
use Rattle.ticks.proofs.draining.work_off.Goals.{After-rest_at-rest, Else-c-eq255, Start}
use Rattle.ticks.proofs.draining.work_off.Goals as goal

abbrev table : Start → List ℕ
table c = loaded c.args.table.now.speeds c.args.table.now.levels

-- the order runs a task, and its job goes on
running : (c : Else-c-eq255) → Running c.args.table.now.levels c.args.block.now c.args.c c.args.d c.args.finished
running c = record {
  size = c.requires.few_ticks.0;
  short = c.requires.few_ticks.1;
  some = c.if-c-eq255.false;
  task = (c.requires.task_lt_places c.if-c-eq255.false).0;
  level = (c.requires.task_lt_places c.if-c-eq255.false).1;
}

working : (c : After-rest_at-rest) →
    Working c.args.table.now.speeds c.args.table.now.levels c.args.block.now c.args.c c.args.d c.args.finished c.rest_at-rest.result
working c =
    let running : Running c.args.table.now.levels c.args.block.now c.args.c c.args.d c.args.finished = record {
      size = c.requires.few_ticks.0;
      short = c.requires.few_ticks.1;
      some = c.if-c-eq255.false;
      task = (c.requires.task_lt_places c.if-c-eq255.false).0;
      level = (c.requires.task_lt_places c.if-c-eq255.false).1;
    } in
    record {
      table = c.args.table.now.known;
      running = running;
      goes_on = c.if-finished.false;
      rest_is = c.rest_at-rest.ensures.0;
    }

pub returns-then-c-eq255 : goal.returns-then-c-eq255
returns-then-c-eq255 c =
    worked_idle (table (goal.at.returns-then-c-eq255 c).Start) c.args.block.now c.args.c c.args.d c.args.finished c.if-c-eq255.true

pub returns-then-finished : goal.returns-then-finished
returns-then-finished c =
    worked_done (running (goal.at.returns-then-finished c).Else-c-eq255) (table (goal.at.returns-then-finished c).Start) c.if-finished.true c.nothing.ensures c.put_rest.ensures

pub returns : goal.returns
returns c =
    worked_fallen (working (goal.at.returns c).After-rest_at-rest) c.worn_by.ensures c.put_rest-2.ensures

pub put_rest-requires : goal.put_rest-requires
put_rest-requires c =
    let k = running (goal.at.put_rest-requires c).Else-c-eq255 in
    (k.task, k.size)

pub rest_at-rest-requires : goal.rest_at-rest-requires
rest_at-rest-requires c =
    let k = running (goal.at.rest_at-rest-requires c).Else-c-eq255 in
    (k.task, k.size)

pub bounds-table-level : goal.bounds-table-level
bounds-table-level c =
    let k = working (goal.at.bounds-table-level c).After-rest_at-rest in
    omega (arith, k.running.level, k.table.few)

pub worn_by-requires : goal.worn_by-requires
worn_by-requires c =
    let k = working (goal.at.worn_by-requires c).After-rest_at-rest in
    (speed_most k.table _ k.running.level, k.running.short)

pub put_rest-requires-2 : goal.put_rest-requires-2
put_rest-requires-2 c =
    let k = working (goal.at.put_rest-requires-2 c).After-rest_at-rest in
    (k.running.task, k.running.size)
