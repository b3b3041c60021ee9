use Prim.Native.Nat.{ℕ, ◌<◌, ◌^◌}
use mathlib.Core.Path.{sym, subst}
use native.Mathlib.Omega.{arith}
use borrow.Author.Rules.{rules}
use Rattle.arith.proofs.RangeLaws.{get_d_list_to}
use Rattle.knee.specs.Curve.{points, curve_at}
use Rattle.knee.proofs.CurveLaws.{curve_most}
use Rattle.knee.proofs.curve.damping_from.Goals as goal

-- One test and one law. The law speaks of the list of the curve at 0, 1, .. 1,300 tenths; the goal speaks of the code's table. That the two
-- lists are the same, entry by entry, is computed where this line is checked.
pub returns : goal.returns
returns c = get_d_list_to 1301 (curve_at points) c.args.tenths 0 (search rules)

pub overflow_cast-result : goal.overflow_cast-result
overflow_cast-result c = record { fits = subst (λ (n : ℕ). n < 2 ^ 32) (sym (returns c)) (omega (arith, curve_most c.args.tenths (search rules))) }
