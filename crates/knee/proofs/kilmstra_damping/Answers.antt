use Rattle.std.proofs.Common.{ap, rules}
use lib.IntN.{ℤ}
use mir.Syntax.{w32}
use mir.ValLaws.{to_z-of_z}
use Rattle.knee.specs.Curve.{damping_reply}
use Rattle.plan.specs.Counted.{counted_number}
use Rattle.knee.proofs.kilmstra_damping.Goals as goal

-- neither call is cited by its name, so that a wrong answer is refused here, and no other
pub returns : goal.returns
returns c =
    search (rules, ap (λ (z : ℤ). counted_number (damping_reply z)) (to_z-of_z w32 c.args.angle c.ranges.angle))
