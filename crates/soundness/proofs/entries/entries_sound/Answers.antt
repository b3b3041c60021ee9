use Rattle.reclaiming.specs.StateBlock.{decode}
use Rattle.soundness.proofs.entries.EntryTests.{entries_ahead, entries_behind, entries_none}
use Rattle.soundness.proofs.entries.entries_sound.Goals as goal

pub returns-then-entries_pass : goal.returns-then-entries_pass
returns-then-entries_pass c =
    entries_ahead c.args.speed (decode c.args.block.now) c.entries_pass.ensures c.if-entries_pass.true

pub returns-then-entries_pass-2 : goal.returns-then-entries_pass-2
returns-then-entries_pass-2 c =
    entries_behind c.args.speed (decode c.args.block.now) c.entries_pass.ensures c.entries_pass-2.ensures c.if-entries_pass.false
    c.if-entries_pass-2.true

pub returns : goal.returns
returns c =
    entries_none c.args.speed (decode c.args.block.now) c.entries_pass.ensures c.entries_pass-2.ensures c.if-entries_pass-2.false
