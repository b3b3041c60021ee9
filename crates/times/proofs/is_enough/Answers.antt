use Prim.Native.Nat.{◌-◌}
use native.Mathlib.Omega.{arith}
use Rattle.times.proofs.TimeSteps.{work_fits, enough_not, enough_is}
use Rattle.times.proofs.is_enough.Goals as goal

pub returns-then-ticks-rest : goal.returns-then-ticks-rest
returns-then-ticks-rest c =
    enough_not c.args.speed c.args.ticks c.args.rest c.if-ticks-rest.true

pub overflow_mul-result : goal.overflow_mul-result
overflow_mul-result c =
    let past = c.args.ticks - c.args.rest.fixed in
    omega (arith, work_fits 1000 1048560 c.args.speed past c.requires.1 (omega (arith, c.requires.2)))

pub returns : goal.returns
returns c =
    enough_is c.args.speed c.args.ticks c.args.rest c.requires.0 c.if-ticks-rest.false
