use native.Mathlib.Omega.{arith}
use borrow.Author.Rules.{rules}
use Rattle.arith.proofs.Loops.{length_mapped}
use Rattle.plan.proofs.Held.{task_at_lem}
use Rattle.judging.proofs.admission.Admissions.{Asked, Added, summed_more}
use Rattle.judging.proofs.admission.demand.Goals.{After-task_time-ticks, Start}
use Rattle.judging.proofs.admission.demand.Goals as goal

asked : (c : Start) → Asked c.args.p c.args.jobs.now c.args.speed
asked c =
    record {
      plan = record { held = record { places = search (length_mapped, rules); most = c.requires.count_bound.0 }; ranges = c.requires.count_bound.1 };
      positive = c.requires.count_bound.2;
      few = c.requires.by_index;
    }

added : (c : After-task_time-ticks) → Added c.args.p c.args.jobs.now c.args.speed c.loop-i.i c.task_time-ticks.result
added c =
    let asked : Asked c.args.p c.args.jobs.now c.args.speed = record {
      plan = record { held = record { places = search (length_mapped, rules); most = c.requires.count_bound.0 }; ranges = c.requires.count_bound.1 };
      positive = c.requires.count_bound.2;
      few = c.requires.by_index;
    } in
    record { asked = asked; below = omega arith; needed = c.task_time-ticks.ensures }

pub task_time-ticks-requires : goal.task_time-ticks-requires
task_time-ticks-requires c =
    let range = task_at_lem (asked (goal.at.task_time-ticks-requires c).Start).plan c.loop-i.i (omega arith) in
    (c.requires.count_bound.2, c.requires.count_bound.3, omega (arith, range.fixed_high), omega (arith, range.worst_high))

pub loop-i-preserved : goal.loop-i-preserved
loop-i-preserved c = summed_more (added (goal.at.loop-i-preserved c).After-task_time-ticks) c.loop-i.invariant
