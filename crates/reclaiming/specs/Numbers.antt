-- The dispatcher's calls as C sees them: a reply as one number.
-- Assumes nothing.
use Rattle.std.specs.Prelude.{ℕ, ◌+◌, ◌*◌, Bool, not, eqb}
use Rattle.reclaiming.specs.declared.Order.TheVariants.{Run, Idle}
use Rattle.reclaiming.specs.Replies.{Reply}
use Rattle.std.specs.declared.result.Result.TheVariants.{Ok, Err}

-- a refusal is its number, below 256; else the kind (1 to run, 2 to stay idle) stands from bit 8 on, the task from bit 16 on, the level from
-- bit 24 on and the hold from bit 32 on
abbrev pub reply_number : Reply → ℕ
reply_number (Ok (Run task level hold)) = 256 + 65536 * task + 16777216 * level + 4294967296 * hold
reply_number (Ok (Idle hold)) = 512 + 4294967296 * hold
reply_number (Err e) = e.number

-- a yes or no as C hands it over: 0 is no, anything else is yes
abbrev pub is_yes : ℕ → Bool
is_yes x = not (eqb x 0)
