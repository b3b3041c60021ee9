use mathlib.Core.Path.{refl, ◌∙◌}
use native.Mathlib.Omega.{arith}
use Rattle.ticks.proofs.arriving.ArriveLaws.{arrive_none, arrive_old, arrive_new, arrive_all}
use Rattle.ticks.proofs.arriving.TotalLaws.{count_old, count_new, old_within, allotment_short}
use Rattle.ticks.proofs.arriving.arrive.Goals.{then-deadline_in-clock, else-deadline_in-clock}
use Rattle.ticks.proofs.arriving.arrive.Goals as goal

pub loop-i-init : goal.loop-i-init
loop-i-init c = (
  arrive_none c.requires.count_le_places.1 c.requires.count_le_places.0,
  record { allots = c.requires.allots.0; sums = c.requires.allots.1; most = omega (arith, c.requires.allots.2); same = λ j h. refl },
)

pub renew-sum-requires-clause-i_bound : goal.renew-sum-requires-clause-i_bound
renew-sum-requires-clause-i_bound c =
    let now = c.loop-i.invariant in (
      old_within now.1 c.loop-i-test.true,
      omega (arith, now.1.most, now.0.few, c.loop-i-test.true),
      allotment_short now.1 c.loop-i-test.true,
    )

pub loop-i-preserved : goal.loop-i-preserved
loop-i-preserved c =
    let now = c.loop-i.invariant in
    let below = c.loop-i-test.true in
    elim c.if-deadline_in-clock.branch [
      | then-deadline_in-clock w ↦ (
        arrive_new now.0 below (omega (arith, c.deadline_in.ensures, w.if-deadline_in-clock.true)) (w.block-is ∙ w.renew-sum.ensures.block_after),
        count_new now.1 below (omega (arith, now.0.few, below)) now.0.size (w.block-is ∙ w.renew-sum.ensures.block_after) (w.sum-is ∙ w.renew-sum.ensures.value),
      )
      | else-deadline_in-clock w ↦ (
        arrive_old now.0 below (λ z. omega (arith, c.deadline_in.ensures, w.if-deadline_in-clock.false, z)) w.block-is,
        count_old now.1 w.block-is w.sum-is,
      )
    ]

pub returns-clause-block_after : goal.returns-clause-block_after
returns-clause-block_after c = arrive_all c.loop-i.invariant.0 c.loop-i-test.false
