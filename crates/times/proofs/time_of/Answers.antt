use native.Mathlib.Omega.{arith}
use Rattle.arith.proofs.Needs.{need_le}
use Rattle.times.proofs.TimeSteps.{time_is}
use Rattle.times.proofs.time_of.Goals as goal

pub overflow_add-result : goal.overflow_add-result
overflow_add-result c =
    let short = need_le c.args.speed c.args.rest.work c.requires.0 in
    omega (arith, c.time_needed.ensures, short, c.requires.2, c.requires.3)

pub returns : goal.returns
returns c = time_is c.args.speed c.args.rest c.time_needed.ensures
