use Rattle.soundness.proofs.entries.EntryTests.{sum_more, entries_again, walk_stop, walk_end}
use Rattle.soundness.proofs.entries.entries_pass.Goals as goal

pub returns-then-not-entry_passes : goal.returns-then-not-entry_passes
returns-then-not-entry_passes c =
    walk_stop c.loop-i.invariant.0 c.loop-i-test.true c.entry_passes.ensures c.if-not-entry_passes.true

pub loop-i-preserved : goal.loop-i-preserved
loop-i-preserved c = (
  entries_again c.loop-i.invariant.0 c.loop-i-test.true c.entry_passes.ensures c.if-not-entry_passes.false,
  sum_more c.loop-i.invariant.1 c.remaining_at-sum.ensures.0 c.remaining_at-sum.ensures.1,
)

pub returns : goal.returns
returns c =
    walk_end c.loop-i.invariant.0 c.loop-i-test.false c.loop-i.invariant.1 c.total_at.ensures
