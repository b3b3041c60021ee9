use borrow.Author.Rules.{rules}
use Rattle.arith.proofs.Loops.{length_mapped}
use Rattle.plan.proofs.Held.{Ranged}
use Rattle.judging.proofs.ranges.TaskRanges.{Next, next_first, next_positive, spanned_over, spanned_more}
use Rattle.judging.proofs.ranges.hyperperiod_of.Goals.{In-Some}
use Rattle.judging.proofs.ranges.hyperperiod_of.Goals as goal

next : (c : In-Some) → Next c.args.p c.loop-t.t-iterator.iter.rest.now c.next.new.self.iter.rest.now c.in-Some.t.now c.loop-t.h
next c =
    let plan : Ranged c.args.p = record { held = record { places = search (length_mapped, rules); most = c.requires.0 }; ranges = c.requires.1 } in
    record { plan = plan; first = c.loop-t.invariant.0; at = c.loop-t.invariant.1; split = c.in-Some.ensures.steps }

pub lcm_of-l-requires : goal.lcm_of-l-requires
lcm_of-l-requires c = next_positive (next (goal.at.lcm_of-l-requires c).In-Some)

pub returns-then-l-gt1000000 : goal.returns-then-l-gt1000000
returns-then-l-gt1000000 c = spanned_over (next (goal.at.returns-then-l-gt1000000 c).In-Some) c.lcm_of-l.ensures c.if-l-gt1000000.true

pub loop-t-preserved : goal.loop-t-preserved
loop-t-preserved c =
    let n = next (goal.at.loop-t-preserved c).In-Some in
    (next_first n, spanned_more n c.lcm_of-l.ensures c.if-l-gt1000000.false)
