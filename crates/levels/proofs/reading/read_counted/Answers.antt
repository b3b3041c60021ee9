use mathlib.Core.Path.{◌≡◌, ◌∙◌}
use native.Mathlib.Omega.{arith}
use lib.ListN.{length}
use Rattle.plan.specs.LevelBlocks.{level_length}
use Rattle.levels.proofs.LevelLaws.{level_length_covers, level_length_tight}
use Rattle.levels.proofs.reading.Loading.{Counted, Closing, load_size, load_closing, load_falls, load_rises}
use Rattle.levels.proofs.reading.read_counted.Goals.{After-bits_at-closing, After-level_length, Else-block-level_length}
use Rattle.levels.proofs.reading.read_counted.Goals as goal

-- 18 is answered yes
counted : (c : After-level_length) → Counted c.args.block.now c.args.count
counted c =
    record { long = c.requires.in_bounds; counted = c.requires.count_value.0; low = c.requires.count_value.1; high = c.requires.count_value.2 }

-- the length is right
size : (c : Else-block-level_length) → length c.args.block.now ≡ level_length c.args.count
size c = c.if-block-level_length.false ∙ c.level_length.ensures

-- and the closing bits are read
closing : (c : After-bits_at-closing) → Closing c.args.block.now c.args.count c.bits_at-closing.result
closing c =
    let counted : Counted c.args.block.now c.args.count = record { long = c.requires.in_bounds; counted = c.requires.count_value.0; low = c.requires.count_value.1; high = c.requires.count_value.2 } in
    let size : length c.args.block.now ≡ level_length c.args.count = c.if-block-level_length.false ∙ c.level_length.ensures in
    record { counts = counted; size = size; closing = c.bits_at-closing.ensures }

pub returns-then-block-level_length : goal.returns-then-block-level_length
returns-then-block-level_length c =
    load_size (counted (goal.at.returns-then-block-level_length c).After-level_length) c.unloaded.ensures c.level_length.ensures (λ e. omega (arith, c.if-block-level_length.true, e))

pub overflow_mul-block : goal.overflow_mul-block
overflow_mul-block c = omega (arith, size c, level_length_tight c.args.count)

pub overflow_sub-block : goal.overflow_sub-block
overflow_sub-block c = omega (arith, size c, level_length_covers c.args.count)

pub bits_at-closing-requires : goal.bits_at-closing-requires
bits_at-closing-requires c =
    let count = c.args.count in
    omega (arith, size c, level_length_covers count, level_length_tight count)

pub returns-then-closing-ne0 : goal.returns-then-closing-ne0
returns-then-closing-ne0 c = load_closing (closing (goal.at.returns-then-closing-ne0 c).After-bits_at-closing) c.unloaded-then-closing-ne0.ensures (λ e. omega (arith, e))

pub speeds_in-speeds-requires : goal.speeds_in-speeds-requires
speeds_in-speeds-requires c =
    omega (arith, size (goal.at.speeds_in-speeds-requires c).Else-block-level_length, level_length_covers c.args.count)

pub returns-then-not-rises : goal.returns-then-not-rises
returns-then-not-rises c =
    load_falls (closing (goal.at.returns-then-not-rises c).After-bits_at-closing) (omega arith) c.speeds_in-speeds.ensures c.unloaded-then-not-rises.ensures c.rises.ensures c.if-not-rises.true

pub returns : goal.returns
returns c =
    load_rises (closing (goal.at.returns c).After-bits_at-closing) (omega arith) c.speeds_in-speeds.ensures c.rises.ensures c.if-not-rises.false
