use borrow.Author.Rules.{rules}
use mathlib.Core.Path.{ap, ◌∙◌}
use native.Mathlib.Omega.{arith}
use mir.Syntax.{w32}
use mir.Val.{of_z, to_z}
use Rattle.knee.proofs.LookupLaws.{FromZero, below_range, above_range, below_zero, from_zero}
use Rattle.std.specs.declared.result.Result.TheVariants.{Ok}
use Rattle.knee.proofs.damping.Goals.{Else-angle-lt0}
use Rattle.knee.proofs.damping.Goals as goal

pub returns-then-angle-lt-LOWEST_ANGLE : goal.returns-then-angle-lt-LOWEST_ANGLE
returns-then-angle-lt-LOWEST_ANGLE c =
    below_range c.args.angle c.ranges.angle (search rules)

pub returns-then-angle-gt-HIGHEST_ANGLE : goal.returns-then-angle-gt-HIGHEST_ANGLE
returns-then-angle-gt-HIGHEST_ANGLE c =
    above_range c.args.angle c.ranges.angle (search rules)

pub returns-then-angle-lt0 : goal.returns-then-angle-lt0
returns-then-angle-lt0 c =
    below_zero c.args.angle c.ranges.angle (search rules) (search rules)

-- after the tests
tenths : (c : Else-angle-lt0) → FromZero c.args.angle (to_z w32 (of_z w32 c.args.angle))
tenths c =
    from_zero c.args.angle c.ranges.angle (search rules) (search rules)

pub overflow_cast-angle : goal.overflow_cast-angle
overflow_cast-angle c = ((tenths c).not_below, record { fits = omega (arith, (tenths c).in_table) })

pub damping_from-found-requires : goal.damping_from-found-requires
damping_from-found-requires c = (tenths c).in_table

pub returns : goal.returns
returns c = ap Ok c.damping_from-found.ensures ∙ (tenths (goal.at.returns c).Else-angle-lt0).answer
