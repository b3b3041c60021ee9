use Prim.Native.Nat.{ℕ, ◌<◌, ◌/◌, ◌^◌}
use mathlib.Core.Path.{subst, sym}
use native.Mathlib.Nat.{div-le_self}
use native.Mathlib.Omega.{arith}
use Rattle.arith.proofs.Divisors.{gcd_positive, product_below, lcm_of, lcm_multiple}
use Rattle.numeric.proofs.lcm_of.Goals.{After-gcd_of-g}
use Rattle.numeric.proofs.lcm_of.Goals as goal

pub returns-then-b-a-eq0 : goal.returns-then-b-a-eq0
returns-then-b-a-eq0 c = lcm_multiple c.args.a c.args.b c.requires c.if-b-a-eq0.true

pub returns : goal.returns
returns c =
    lcm_of c.args.a c.args.b c.gcd_of-g.result c.gcd_of-g.ensures

-- the part by which b is multiplied
part : (c : After-gcd_of-g) → c.args.a / c.gcd_of-g.result < 2 ^ 32
part c =
    omega (arith, div-le_self c.args.a c.gcd_of-g.result, c.ranges.a)

pub nonzero_div-part : goal.nonzero_div-part
nonzero_div-part c =
    subst (λ (g : ℕ). 0 < g) (sym c.gcd_of-g.ensures) (gcd_positive c.args.a c.args.b c.requires)

pub overflow_cast-result-2 : goal.overflow_cast-result-2
overflow_cast-result-2 c = omega (arith, part c)

pub overflow_mul-result : goal.overflow_mul-result
overflow_mul-result c =
    record {
      fits = product_below (2 ^ 32) (c.args.a / c.gcd_of-g.result) c.args.b (part c) (omega (arith, c.ranges.b));
    }
