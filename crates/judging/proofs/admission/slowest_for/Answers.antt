use Prim.Native.Nat.{ℕ, zero-le, ◌≤◌, ◌*◌}
use mathlib.Core.Path.{sym}
use native.Mathlib.Nat.{mul-le-mul}
use native.Mathlib.Omega.{arith}
use borrow.Author.Tests.{le-leb, lt-leb}
use lib.ListN.{get_or}
use Rattle.levels.proofs.Tables.{speed_most}
use Rattle.judging.proofs.admission.Admissions.{does, Trying, level_found, level_next, level_none}
use Rattle.judging.proofs.admission.slowest_for.Goals.{In-loop-level}
use Rattle.judging.proofs.admission.slowest_for.Goals as goal

trying : (c : In-loop-level) →
    Trying (does c.args.work c.args.span) c.args.table.now.speeds c.args.table.now.levels c.loop-level.level
trying c = record { table = c.args.table.now.known; low = c.loop-level.invariant; below = c.loop-level-test.true }

-- the speed that is tried
abbrev speed : In-loop-level → ℕ
speed c = get_or c.args.table.now.speeds c.loop-level.level 0

slow : (c : In-loop-level) → speed c ≤ 1000
slow c = speed_most (trying c).table c.loop-level.level (trying c).below

pub loop-level-init : goal.loop-level-init
loop-level-init c = zero-le

pub offset_bounds-table-level : goal.offset_bounds-table-level
offset_bounds-table-level c = omega (arith, (trying c).table.few)

pub bounds-table-level : goal.bounds-table-level
bounds-table-level c = omega (arith, (trying (goal.at.bounds-table-level c).In-loop-level).table.few)

pub overflow_cast-speed : goal.overflow_cast-speed
overflow_cast-speed c = omega (arith, slow (goal.at.overflow_cast-speed c).In-loop-level)

pub overflow_mul-span : goal.overflow_mul-span
overflow_mul-span c =
    let span : c.args.span ≤ 4294967295 = omega (arith, c.ranges.span) in
    omega (arith, mul-le-mul span (slow (goal.at.overflow_mul-span c).In-loop-level))

pub returns-then-work-span : goal.returns-then-work-span
returns-then-work-span c = (
  level_found (trying (goal.at.returns-then-work-span c).In-loop-level) (le-leb c.args.work (c.args.span * speed (goal.at.returns-then-work-span c).In-loop-level) (omega (arith, c.if-work-span.true))),
  c.loop-level-test.true,
)

pub loop-level-preserved : goal.loop-level-preserved
loop-level-preserved c =
    level_next (trying (goal.at.loop-level-preserved c).In-loop-level) (lt-leb c.args.work (c.args.span * speed (goal.at.loop-level-preserved c).In-loop-level) c.if-work-span.false)

pub returns : goal.returns
returns c =
    sym (level_none c.args.table.now.known (does c.args.work c.args.span) c.loop-level.level c.loop-level.invariant c.loop-level-test.false)
