-- What the code holds of a tested block, as the definitions see it.
-- Assumes nothing.
use Rattle.std.specs.Prelude.{ℕ, ◌≡◌, Bool, true, List}
use Rattle.arith.specs.Choice.{both}
use Rattle.plan.specs.Levels.{nominal}
use Rattle.reclaiming.specs.Orders.{next_arrival}
use Rattle.reclaiming.specs.Passes.{in_time}
use Rattle.reclaiming.specs.StateBlock.{State, state_count, decode, plan_in}
use Rattle.reclaiming.specs.Questions.{state_sound, sound_at}
use Rattle.state.specs.Code.{Holds, timing_in}
use Rattle.urgency.specs.Code.{Keyed, keys_in}
use Rattle.soundness.specs.declared.Tested.{Tested}

-- a block that is sound, with its keys and its nominal level
pub record Good (speeds bytes keys : List ℕ) (highest : ℕ) : Type 0 where
  pub sound : sound_at speeds bytes ≡ true
  pub holds : Holds bytes
  pub keyed : Keyed (timing_in speeds bytes) (decode bytes).clock keys
  pub nominal : highest ≡ nominal speeds (plan_in (decode bytes))

-- whether a state is sound and its clock in range
abbrev pub timed_sound : List ℕ → State → Bool
timed_sound speeds s = both (in_time s.clock) (state_sound speeds s)

-- what a test tells of a block that it finds sound: the ticks to the next arrival, its nominal level and its keys
pub record TestedBlock (speeds : List ℕ) (found : Bool) (bytes : List ℕ) (t : Tested) : Type 0 where
  pub sound : found ≡ true
  pub next : t.next ≡ next_arrival (timing_in speeds bytes) (decode bytes).clock
  pub nominal : t.nominal ≡ nominal speeds (plan_in (decode bytes))
  pub keys : t.keys ≡ keys_in bytes (state_count bytes) (decode bytes).clock
