use native.Mathlib.Omega.{arith}
use Rattle.plan_calls.proofs.numbers.Filling.{put_more}
use Rattle.plan_calls.proofs.numbers.plan_from.Goals as goal

pub loop-i-preserved : goal.loop-i-preserved
loop-i-preserved c =
    put_more c.loop-i.invariant (omega arith)
    (λ j. record {
      period = c.number_at-period.ensures j;
      worst = c.number_at-worst.ensures j;
      fixed = c.number_at-fixed.ensures j;
      floor = c.number_at-floor.ensures j;
    })
