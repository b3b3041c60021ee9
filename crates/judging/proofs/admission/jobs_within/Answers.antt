use mathlib.Core.Path.{refl}
use native.Mathlib.Omega.{arith}
use borrow.Author.Rules.{rules}
use Rattle.arith.proofs.ArrayLaws.{values_more}
use Rattle.arith.proofs.Loops.{length_mapped}
use Rattle.plan.proofs.Held.{Ranged, task_at_lem}
use Rattle.judging.proofs.admission.Admissions.{jobs_in}
use Rattle.judging.proofs.admission.jobs_within.Goals.{Start}
use Rattle.judging.proofs.admission.jobs_within.Goals as goal

plan : (c : Start) → Ranged c.args.p
plan c = record { held = record { places = search (length_mapped, rules); most = c.requires.0 }; ranges = c.requires.1 }

pub nonzero_div-jobs : goal.nonzero_div-jobs
nonzero_div-jobs c = (task_at_lem (plan (goal.at.nonzero_div-jobs c).Start) c.loop-i.i (omega arith)).period_low

pub loop-i-preserved : goal.loop-i-preserved
loop-i-preserved c =
    values_more 16 0 (jobs_in c.args.span c.args.p) c.loop-i.jobs c.loop-i.i _ (omega arith) c.loop-i.invariant refl
