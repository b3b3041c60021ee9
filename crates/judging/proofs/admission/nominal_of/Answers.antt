use Prim.Native.Nat.{ℕ}
use mathlib.Core.Path.{sym}
use mathlib.Core.List.{List}
use native.Mathlib.Omega.{arith}
use borrow.Author.Rules.{rules}
use lib.ListN.{get_or}
use Rattle.plan.specs.declared.Task.{Task}
use Rattle.plan.specs.Blocks.{tasks_of}
use Rattle.plan.specs.Levels.{admits}
use Rattle.arith.proofs.Loops.{length_mapped}
use Rattle.levels.proofs.Tables.{speed_positive, speed_most}
use Rattle.judging.proofs.admission.Admissions.{Counted, Trying, counted_few, admitted, not_admitted, nominal_from, level_found, level_next, level_none}
use Rattle.judging.proofs.admission.nominal_of.Goals.{After-jobs_within-jobs, At-loop-level, In-loop-level}
use Rattle.judging.proofs.admission.nominal_of.Goals as goal

counted : (c : After-jobs_within-jobs) → Counted c.args.p c.args.span c.jobs_within-jobs.result
counted c =
    record {
      plan = record { held = record { places = search (length_mapped, rules); most = c.requires.count_bound.0 }; ranges = c.requires.count_bound.1 };
      span_is = c.requires.span_value.0;
      small = c.requires.span_value.1;
      jobs_are = c.jobs_within-jobs.ensures;
    }

abbrev tasks : At-loop-level → List Task
tasks c = tasks_of c.args.p

-- the level of a turn, and its speed
abbrev speed : In-loop-level → ℕ
speed c = get_or c.args.table.now.speeds c.loop-level.level 0

trying : (c : In-loop-level) →
    Trying (admits (tasks_of c.args.p)) c.args.table.now.speeds c.args.table.now.levels c.loop-level.level
trying c = record { table = c.args.table.now.known; low = c.loop-level.invariant; below = c.loop-level-test.true }

pub jobs_within-jobs-requires : goal.jobs_within-jobs-requires
jobs_within-jobs-requires c = c.requires.count_bound

pub demand-work-requires : goal.demand-work-requires
demand-work-requires c =
    let n = counted (goal.at.demand-work-requires c).After-jobs_within-jobs in record {
      count_bound = (n.plan.held.most, n.plan.ranges, omega arith, omega arith);
      by_index = counted_few n;
    }

pub loop-level-init : goal.loop-level-init
loop-level-init c =
    nominal_from (counted (goal.at.loop-level-init c).After-jobs_within-jobs) c.args.table.now.known.rising c.demand-work.ensures (search rules)

pub offset_bounds-table-level : goal.offset_bounds-table-level
offset_bounds-table-level c = omega (arith, (trying c).table.few)

pub bounds-table-level : goal.bounds-table-level
bounds-table-level c = omega (arith, (trying (goal.at.bounds-table-level c).In-loop-level).table.few)

pub demand-requires : goal.demand-requires
demand-requires c =
    let n = counted (goal.at.demand-requires c).After-jobs_within-jobs in
    let t = trying (goal.at.demand-requires c).In-loop-level in record {
      count_bound = (n.plan.held.most, n.plan.ranges, speed_positive t.table _ t.below, speed_most t.table _ t.below);
      by_index = counted_few n;
    }

pub returns-then-demand-span : goal.returns-then-demand-span
returns-then-demand-span c = (
  level_found (trying (goal.at.returns-then-demand-span c).In-loop-level) (admitted (counted (goal.at.returns-then-demand-span c).After-jobs_within-jobs) (speed (goal.at.returns-then-demand-span c).In-loop-level) c.demand.ensures (omega (arith, c.if-demand-span.true))),
  c.loop-level-test.true,
)

pub loop-level-preserved : goal.loop-level-preserved
loop-level-preserved c =
    level_next (trying (goal.at.loop-level-preserved c).In-loop-level) (not_admitted (counted (goal.at.loop-level-preserved c).After-jobs_within-jobs) (speed (goal.at.loop-level-preserved c).In-loop-level) c.demand.ensures c.if-demand-span.false)

pub returns : goal.returns
returns c =
    sym (level_none c.args.table.now.known (admits (tasks (goal.at.returns c).At-loop-level)) c.loop-level.level c.loop-level.invariant c.loop-level-test.false)

pub returns-in_err-fast : goal.returns-in_err-fast
returns-in_err-fast c =
    let n = counted (goal.at.returns-in_err-fast c).After-jobs_within-jobs in
    let low = nominal_from n c.args.table.now.known.rising c.demand-work.ensures (sym c.in_err-fast.ensures) in
    rw c.from_residual.ensures (sym (level_none c.args.table.now.known (admits (tasks_of c.args.p)) c.args.table.now.levels low (omega arith)))
