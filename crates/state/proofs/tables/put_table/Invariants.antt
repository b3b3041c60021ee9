use Prim.Native.Nat.{ℕ}
use mathlib.Core.Path.{◌≡◌}
use mathlib.Core.List.{List}
use lib.ListN.{length}
use Rattle.reclaiming.specs.StateBlock.{level_places, state_length}
use Rattle.state.proofs.tables.TableLaws.{StoredTo}
use Rattle.state.proofs.tables.put_table.Given as goal

-- whatever the block was before the count was stored in it
abbrev pub invariant-loop-k : goal.invariant-loop-k
invariant-loop-k l =
    (length l.image ≡ state_length)
    × ((found : List ℕ) → StoredTo l.speeds l.levels found l.initial.image 0 → StoredTo l.speeds l.levels found l.image l.k)
