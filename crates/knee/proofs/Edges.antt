-- 02, No. 7: every row of the table holds, and twice the valve's period less one tick is attained.
-- Assumes nothing.
use mathlib.Core.Path.{◌≡◌, refl, ap}
use mathlib.Core.Bool.{true}
use mathlib.Core.Logic.{inl, ⊎_elim}
use borrow.Author.Rules.{rules}
use borrow.Author.Tests.{eqb-false}
use Rattle.arith.specs.Need.{need}
use Rattle.arith.specs.Divisor.{gcd, lcm}
use Rattle.plan.specs.Times.{time_of, worn}
use Rattle.schedule.specs.PlainSchedule.{Job, more_urgent}
use Rattle.worked_cases.specs.Cases.{agrees}
use Rattle.knee.specs.Cases.{edges, Attained}

pub edges_agree : agrees edges ≡ true
unfolding need time_of worn lcm gcd more_urgent
edges_agree = refl

pub attained : Attained
unfolding need time_of worn lcm gcd more_urgent
attained = (
  record {
    was_open = record { arrived = record { task = search rules; arrival = search rules; multiple = refl }; unclosed = λ x. x };
    is_closed = inl refl;
  },
  record {
    was_open = record {
      arrived = record { task = search rules; arrival = search rules; multiple = refl };
      unclosed = ⊎_elim (λ e. eqb-false 2 0 refl (ap (λ (j : Job). j.arrival) e)) (λ x. x);
    };
    is_closed = inl refl;
  },
)
