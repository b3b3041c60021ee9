use Rattle.soundness.specs.SoundEntries.{entry_passes}
use Rattle.soundness.proofs.entries.EntryTests.{Testing, SummedTo}
use Rattle.soundness.proofs.entries.entries_pass.Given as goal

abbrev pub invariant-loop-i : goal.invariant-loop-i
invariant-loop-i l = Testing l.block l.count (entry_passes l.ahead l.speed) l.i × SummedTo l.block l.sum l.i
