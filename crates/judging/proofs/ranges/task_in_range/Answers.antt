use native.Mathlib.Omega.{arith}
use Rattle.judging.proofs.ranges.TaskRanges.{period_low, period_high, worst_low, worst_high, fixed_high}
use Rattle.judging.proofs.ranges.task_in_range.Goals as goal

pub returns-then-t-lt1 : goal.returns-then-t-lt1
returns-then-t-lt1 c = period_low c.args.t (omega arith)

pub returns-then-t-gt65535 : goal.returns-then-t-gt65535
returns-then-t-gt65535 c = period_high c.args.t (omega arith)

pub returns-then-t-lt1-2 : goal.returns-then-t-lt1-2
returns-then-t-lt1-2 c = worst_low c.args.t (omega arith) (omega arith) (omega arith)

pub returns-then-t-gt1048575 : goal.returns-then-t-gt1048575
returns-then-t-gt1048575 c =
    worst_high c.args.t (omega arith) (omega arith) (omega arith)

pub returns : goal.returns
returns c =
    fixed_high c.args.t
    (omega arith) (omega arith) (omega arith) (omega arith)
