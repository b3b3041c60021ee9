use mathlib.Core.Path.{◌∙◌}
use mathlib.Core.List.{List}
use Prim.Native.Nat.{ℕ}
use native.Mathlib.Omega.{arith}
use Rattle.levels.specs.Code.{loaded}
use Rattle.plan_reading.proofs.ReadLaws.{Opened, Counted, read_short, read_edition_low, read_edition_high, read_low, read_high, read_size}
use Rattle.plan_reading.proofs.read_over.Goals.{After-bits_at-count, After-bits_at-edition, Else-count-gt16, Start}
use Rattle.plan_reading.proofs.read_over.Goals as goal

-- the levels' speeds, and the block
abbrev speeds : Start → List ℕ
speeds c = loaded c.args.table.now.speeds c.args.table.now.levels

abbrev block : After-bits_at-edition → List ℕ
block c = c.args.block.now

opened : (c : After-bits_at-count) → Opened (c.args.block.now) c.bits_at-edition.result c.bits_at-count.result
opened c =
    record {
      long = omega arith;
      named = c.bits_at-edition.ensures;
      edition_low = omega arith;
      edition_high = omega arith;
      counted = c.bits_at-count.ensures;
    }

counted : (c : Else-count-gt16) → Counted (c.args.block.now) c.bits_at-edition.result c.bits_at-count.result
counted c =
    let opened : Opened (c.args.block.now) c.bits_at-edition.result c.bits_at-count.result = record {
      long = omega arith;
      named = c.bits_at-edition.ensures;
      edition_low = omega arith;
      edition_high = omega arith;
      counted = c.bits_at-count.ensures;
    } in
    record { opens = opened; low = omega arith; high = (omega arith) }

pub returns-then-block-lt2 : goal.returns-then-block-lt2
returns-then-block-lt2 c =
    read_short (speeds (goal.at.returns-then-block-lt2 c).Start) c.args.block.now c.refused.ensures (omega arith)

pub returns-then-edition-lt1 : goal.returns-then-edition-lt1
returns-then-edition-lt1 c =
    read_edition_low (speeds (goal.at.returns-then-edition-lt1 c).Start) (block (goal.at.returns-then-edition-lt1 c).After-bits_at-edition) c.refused-then-edition-lt1.ensures (omega arith) c.bits_at-edition.ensures (omega arith)

pub returns-then-edition-gt2 : goal.returns-then-edition-gt2
returns-then-edition-gt2 c =
    read_edition_high (speeds (goal.at.returns-then-edition-gt2 c).Start) (block (goal.at.returns-then-edition-gt2 c).After-bits_at-edition) c.refused-then-edition-gt2.ensures (omega arith) c.bits_at-edition.ensures (omega arith)

pub returns-then-count-lt1 : goal.returns-then-count-lt1
returns-then-count-lt1 c =
    read_low (speeds (goal.at.returns-then-count-lt1 c).Start) (opened (goal.at.returns-then-count-lt1 c).After-bits_at-count) c.refused-then-count-lt1.ensures (omega arith)

pub returns-then-count-gt16 : goal.returns-then-count-gt16
returns-then-count-gt16 c =
    read_high (speeds (goal.at.returns-then-count-gt16 c).Start) (opened (goal.at.returns-then-count-gt16 c).After-bits_at-count) c.refused-then-count-gt16.ensures (omega arith)

pub returns-then-block-block_length : goal.returns-then-block-block_length
returns-then-block-block_length c =
    read_size (speeds (goal.at.returns-then-block-block_length c).Start) (counted (goal.at.returns-then-block-block_length c).Else-count-gt16) c.refused-then-block-block_length.ensures c.block_length.ensures (λ e. omega (arith, c.if-block-block_length.true, e))

pub read_counted-requires : goal.read_counted-requires
read_counted-requires c =
    let k = counted (goal.at.read_counted-requires c).Else-count-gt16 in
    let o = k.opens in record {
      edition_value = (o.named, o.edition_low, o.edition_high, o.counted);
      le_count = (k.low, k.high, c.if-block-block_length.false ∙ c.block_length.ensures);
    }
