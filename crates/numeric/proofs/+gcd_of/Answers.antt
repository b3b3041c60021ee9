use Rattle.std.proofs.Common.{ℕ, sym, ap, ◌∙◌, arith}
use Rattle.arith.specs.Divisor.{gcd}
use Rattle.arith.proofs.Divisors.{gcd_zero, gcd_step}
use Rattle.numeric.proofs.+gcd_of.Goals as goal

pub returns-then-b-eq0 : goal.returns-then-b-eq0
returns-then-b-eq0 t c = sym (gcd_zero c.args.a) ∙ ap (λ (b : ℕ). gcd c.args.a b) (sym c.if-b-eq0.true)

pub returns : goal.returns
returns t c = c.gcd_of.ensures ∙ sym (gcd_step c.args.a c.args.b (omega arith))
