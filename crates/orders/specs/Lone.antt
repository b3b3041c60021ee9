-- A job that is the only open one in a block, and its allowance, as the code finds them.
-- Assumes nothing.
use Rattle.std.specs.Prelude.{ℕ, ◌%◌, Bool, not, List, eqb}
use Rattle.arith.specs.Choice.{both}
use Rattle.arith.specs.Ranges.{some_to}
use Rattle.reclaiming.specs.StateBlock.{work_field}
use Rattle.reclaiming.specs.Orders.{with_gap}
use Rattle.state.specs.Code.{entry_in, number_in}
use Rattle.urgency.specs.Code.{allowed_by}

-- of n tasks, one but task x has work left
abbrev pub other_in : List ℕ → ℕ → ℕ → Bool
other_in bytes n x = some_to n (λ i. both (not (eqb i x)) (not (eqb (number_in bytes work_field i) 0)))

-- the allowance, of n tasks, of the most urgent open job, by its key, where the next arrival is so many ticks away
abbrev pub allowed_until : List ℕ → List ℕ → ℕ → ℕ → ℕ → ℕ
allowed_until bytes keys n key next =
    with_gap (not (other_in bytes n (key % 16))) (allowed_by keys (λ j. (entry_in bytes j).remaining) n key) next
