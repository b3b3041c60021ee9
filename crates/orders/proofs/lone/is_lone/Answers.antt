use native.Mathlib.Omega.{arith}
use Rattle.orders.proofs.lone.LoneLaws.{not_lone}
use Rattle.orders.proofs.lone.is_lone.Goals as goal

pub returns-then-j-i : goal.returns-then-j-i
returns-then-j-i c =
    not_lone c.loop-j.invariant c.loop-j-test.true (λ z. omega (arith, c.if-work-ne0.true, c.get_number-work.ensures, z))
    (λ e. omega (arith, c.if-j-i.true, e))
