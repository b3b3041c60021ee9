-- Whether what is left of a job, an entry, and all entries with their total, are sound.
-- Assumes nothing.
use Rattle.std.specs.Prelude.{ℕ, Bool, true, leb, eqb}
use Rattle.arith.specs.Choice.{pick, both, every}
use Rattle.plan.specs.declared.Rest.{Rest}
use Rattle.reclaiming.specs.declared.Entry.{Entry}
use Rattle.reclaiming.specs.StateBlock.{State}
use Rattle.reclaiming.specs.Questions.{entry_sound, entry_ahead, total_sound}
use Rattle.soundness.specs.declared.entries.Entries.{Entries}
use Rattle.soundness.specs.declared.entries.Entries.TheVariants.{NotSound, Behind, Ahead}

-- whether what is left of a job is sound, beside a whole one
abbrev pub rest_sound : Rest → Rest → Bool
rest_sound rest whole =
    both (leb rest.work whole.work)
    (both (leb rest.fixed whole.fixed) (pick (eqb rest.work 0) (eqb rest.fixed 0) true))

-- whether an entry is sound and, where that is asked too, ahead
abbrev pub entry_passes : Bool → ℕ → Entry → Bool
entry_passes ahead speed e = both (entry_sound speed e) (pick ahead (entry_ahead speed e) true)

-- whether every entry of a state passes, and they come to its total
abbrev pub entries_pass : Bool → ℕ → State → Bool
entries_pass ahead speed s = both (every (entry_passes ahead speed) s.entries) (total_sound s)

-- what testing the entries finds: whether each is sound and they come to the total and, if so, whether each is ahead
abbrev pub entries_by : Bool → Bool → Entries
entries_by sound ahead = pick sound (pick ahead Ahead Behind) NotSound

abbrev pub entries_tested : ℕ → State → Entries
entries_tested speed s =
    entries_by (both (every (entry_sound speed) s.entries) (total_sound s)) (every (entry_ahead speed) s.entries)
