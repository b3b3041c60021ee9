use Prim.Native.Nat.{ℕ}
use mathlib.Core.List.{List}
use native.Mathlib.Omega.{arith}
use Rattle.state.proofs.tables.TableLaws.{Gathers, gathered_length, none_long, none_few, none_many, found_falling, found_good, found_table}
use Rattle.state.proofs.tables.own_table.Goals.{After-shared_slice_known-1, After-speeds_of-speeds}
use Rattle.state.proofs.tables.own_table.Goals as goal

-- the block
abbrev bytes : After-shared_slice_known-1 → List ℕ
bytes c = c.args.block.now

pub returns-then-block-ne-STATE_LENGTH : goal.returns-then-block-ne-STATE_LENGTH
returns-then-block-ne-STATE_LENGTH c = none_long (bytes (goal.at.returns-then-block-ne-STATE_LENGTH c).After-shared_slice_known-1) (omega arith)

pub returns-then-count-lt1 : goal.returns-then-count-lt1
returns-then-count-lt1 c =
    none_few (bytes (goal.at.returns-then-count-lt1 c).After-shared_slice_known-1) (omega arith) (omega (arith, c.levels_at-count.ensures))

pub returns-then-count-gt-LEVEL_PLACES : goal.returns-then-count-gt-LEVEL_PLACES
returns-then-count-gt-LEVEL_PLACES c =
    none_many (bytes (goal.at.returns-then-count-gt-LEVEL_PLACES c).After-shared_slice_known-1) (omega arith) (omega (arith, c.levels_at-count.ensures))

-- the speeds that were gathered
gathers : (c : After-speeds_of-speeds) →
    Gathers (c.args.block.now) c.speeds_of-speeds.result c.levels_at-count.result
gathers c =
    record {
      size = omega arith;
      some = omega arith;
      few = omega arith;
      counted = c.levels_at-count.ensures;
      gathered = c.speeds_of-speeds.ensures;
    }

pub rises-requires : goal.rises-requires
rises-requires c = (omega arith, gathered_length (gathers (goal.at.rises-requires c).After-speeds_of-speeds))

pub returns-then-not-rises : goal.returns-then-not-rises
returns-then-not-rises c =
    found_falling (gathers (goal.at.returns-then-not-rises c).After-speeds_of-speeds) c.rises.ensures c.if-not-rises.true

pub invariant_of-result : goal.invariant_of-result
invariant_of-result c = record { known = found_table (gathers (goal.at.invariant_of-result c).After-speeds_of-speeds) c.rises.ensures c.if-not-rises.false }

pub returns : goal.returns
returns c =
    let g = gathers (goal.at.returns c).After-speeds_of-speeds in
    record { good = found_good g c.rises.ensures c.if-not-rises.false; levels = g.counted; speeds = g.gathered }
