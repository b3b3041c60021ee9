use native.Mathlib.Omega.{arith}
use Rattle.ticks.proofs.KeyRenewal.{renewed_old, renewed_new}
use Rattle.ticks.proofs.renewed.Goals.{then-deadline_in-clock, else-deadline_in-clock}
use Rattle.ticks.proofs.renewed.Goals as goal

pub loop-i-preserved : goal.loop-i-preserved
loop-i-preserved c =
    elim c.if-deadline_in-clock.branch [
      | then-deadline_in-clock w ↦
          renewed_new c.loop-i.invariant c.loop-i-test.true (omega (arith, c.deadline_in.ensures, w.if-deadline_in-clock.true))
          w.period_at-period.ensures.0 w.key_of.ensures _ w.r-is
      | else-deadline_in-clock w ↦
          renewed_old c.loop-i.invariant c.loop-i-test.true (λ z. omega (arith, c.deadline_in.ensures, w.if-deadline_in-clock.false, z)) w.r-is
    ]
