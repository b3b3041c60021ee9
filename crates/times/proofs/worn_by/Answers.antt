use Prim.Native.Nat.{◌-◌}
use mathlib.Core.Path.{◌∙◌}
use native.Mathlib.Omega.{arith}
use Rattle.times.proofs.TimeSteps.{work_fits, worn_fixed, worn_none, worn_some}
use Rattle.times.proofs.worn_by.Goals as goal

pub returns-then-ticks-rest : goal.returns-then-ticks-rest
returns-then-ticks-rest c =
    worn_fixed c.args.speed c.args.ticks c.args.rest c.if-ticks-rest.true

pub overflow_mul-done : goal.overflow_mul-done
overflow_mul-done c =
    let past = c.args.ticks - c.args.rest.fixed in
    omega (arith, work_fits 1000 65535 c.args.speed past c.requires.0 (omega (arith, c.requires.1)))

pub returns-then-rest-done : goal.returns-then-rest-done
returns-then-rest-done c =
    c.nothing.ensures ∙ worn_none c.args.speed c.args.ticks c.args.rest c.if-ticks-rest.false c.if-rest-done.true

pub returns : goal.returns
returns c =
    worn_some c.args.speed c.args.ticks c.args.rest c.if-ticks-rest.false
