use Prim.Native.Nat.{◌-◌}
use native.Mathlib.Omega.{arith}
use Rattle.times.proofs.TimeSteps.{work_fits, within_fixed, within_is}
use Rattle.times.proofs.is_within.Goals as goal

pub returns-then-rest-ticks : goal.returns-then-rest-ticks
returns-then-rest-ticks c =
    within_fixed c.args.speed c.args.ticks c.args.rest c.if-rest-ticks.true

pub overflow_mul-result : goal.overflow_mul-result
overflow_mul-result c =
    let past = c.args.ticks - c.args.rest.fixed in
    omega (arith, work_fits 1000 1048560 c.args.speed past c.requires.1 (omega (arith, c.requires.2)))

pub returns : goal.returns
returns c =
    within_is c.args.speed c.args.ticks c.args.rest c.requires.0 c.if-rest-ticks.false
