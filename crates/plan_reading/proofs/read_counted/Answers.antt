use Prim.Native.Nat.{ℕ, ◌-◌, ◌*◌, ◌≤◌}
use mathlib.Core.Path.{◌≡◌, ap, subst}
use mathlib.Core.List.{List}
use native.Mathlib.Omega.{arith}
use lib.ListN.{length, drop}
use Rattle.arith.specs.Digits.{number}
use Rattle.arith.specs.Bits.{unpacked}
use Rattle.plan.specs.declared.Plan.{Plan}
use Rattle.plan.specs.Blocks.{bit_count}
use Rattle.plan.proofs.BlockBits.{bit_count_most, block_length_most, block_length_least, block_length_covers, block_length_tight, length-tasks_from}
use Rattle.levels.specs.Code.{loaded}
use Rattle.plan_reading.proofs.ReadLaws.{Closing, Planned, read_closing, read_misnamed, read_tasks}
use Rattle.plan_reading.proofs.read_counted.Goals.{After-bit_count-used, After-bits_at-closing, After-plan_in-p, Start}
use Rattle.plan_reading.proofs.read_counted.Goals as goal

-- the levels' speeds, and the block
abbrev speeds : After-bits_at-closing → List ℕ
speeds c = loaded c.args.table.now.speeds c.args.table.now.levels

abbrev block : After-bit_count-used → List ℕ
block c = c.args.block.now

-- the tasks stand within the block
covered : (c : Start) → bit_count c.args.edition c.args.count ≤ 8 * length c.args.block.now
covered c = omega (arith, c.requires.le_count.2, block_length_covers c.args.edition c.args.count)

-- the block up to its closing bits
closing : (c : After-bits_at-closing) → Closing (c.args.block.now) c.args.edition c.args.count c.bits_at-closing.result
closing c =
    let b = (c.args.block.now) in
    record {
      counts =
          record {
            opens =
                record {
                  long = omega (arith, c.requires.le_count.2, block_length_least c.args.edition c.args.count c.requires.le_count.0);
                  named = c.requires.edition_value.0;
                  edition_low = c.requires.edition_value.1;
                  edition_high = c.requires.edition_value.2;
                  counted = c.requires.edition_value.3;
                };
            low = c.requires.le_count.0;
            high = c.requires.le_count.1;
          };
      size = c.requires.le_count.2;
      closing =
          subst (λ (used : ℕ). c.bits_at-closing.result ≡ number 2 (8 * length b - used) (drop used (unpacked b)))
          c.bit_count-used.ensures
          c.bits_at-closing.ensures;
    }

planned : (c : After-plan_in-p) →
    Planned (c.args.block.now) c.args.edition c.args.count c.bits_at-closing.result c.plan_in-p.result
planned c =
    let closing : Closing (c.args.block.now) c.args.edition c.args.count c.bits_at-closing.result = let b = (c.args.block.now) in
    record {
      counts =
          record {
            opens =
                record {
                  long = omega (arith, c.requires.le_count.2, block_length_least c.args.edition c.args.count c.requires.le_count.0);
                  named = c.requires.edition_value.0;
                  edition_low = c.requires.edition_value.1;
                  edition_high = c.requires.edition_value.2;
                  counted = c.requires.edition_value.3;
                };
            low = c.requires.le_count.0;
            high = c.requires.le_count.1;
          };
      size = c.requires.le_count.2;
      closing =
          subst (λ (used : ℕ). c.bits_at-closing.result ≡ number 2 (8 * length b - used) (drop used (unpacked b)))
          c.bit_count-used.ensures
          c.bits_at-closing.ensures;
    } in
    record { closes = closing; closed = c.if-closing-ne0.false; plan = c.plan_in-p.ensures }

-- it has no more than 16 tasks
few : (c : After-plan_in-p) → c.plan_in-p.result.count ≤ 16
few c =
    omega (
      arith,
      c.requires.le_count.1,
      ap (λ (q : Plan). q.count) c.plan_in-p.ensures,
      length-tasks_from c.args.edition c.args.count (drop 9 (unpacked c.args.block.now)),
    )

pub overflow_mul-block : goal.overflow_mul-block
overflow_mul-block c =
    omega (arith, c.requires.le_count.2, block_length_most c.args.edition c.args.count c.requires.le_count.1)

pub overflow_sub-block : goal.overflow_sub-block
overflow_sub-block c = omega (arith, c.bit_count-used.ensures, covered (goal.at.overflow_sub-block c).Start)

pub bits_at-closing-requires : goal.bits_at-closing-requires
bits_at-closing-requires c =
    omega (
      arith,
      c.bit_count-used.ensures,
      c.requires.le_count.2,
      bit_count_most c.args.edition c.args.count c.requires.le_count.1,
      covered (goal.at.bits_at-closing-requires c).Start,
      block_length_tight c.args.edition c.args.count,
    )

pub returns-then-closing-ne0 : goal.returns-then-closing-ne0
returns-then-closing-ne0 c =
    read_closing (speeds (goal.at.returns-then-closing-ne0 c).After-bits_at-closing) (closing (goal.at.returns-then-closing-ne0 c).After-bits_at-closing) c.refused.ensures (λ e. omega (arith, c.if-closing-ne0.true, e))

pub plan_in-p-requires : goal.plan_in-p-requires
plan_in-p-requires c =
    (c.requires.le_count.1, covered (goal.at.plan_in-p-requires c).Start)

pub edition_of-requires : goal.edition_of-requires
edition_of-requires c = few c

pub misnamed-requires : goal.misnamed-requires
misnamed-requires c = few (goal.at.misnamed-requires c).After-plan_in-p

pub returns-then-edition_of-edition : goal.returns-then-edition_of-edition
returns-then-edition_of-edition c =
    read_misnamed (speeds (goal.at.returns-then-edition_of-edition c).After-bits_at-closing) (planned (goal.at.returns-then-edition_of-edition c).After-plan_in-p) c.edition_of.ensures (λ e. omega (arith, c.if-edition_of-edition.true, e)) c.misnamed.ensures c.refused-then-edition_of-edition.ensures

pub judged_with-requires : goal.judged_with-requires
judged_with-requires c =
    few (goal.at.judged_with-requires c).After-plan_in-p

pub returns : goal.returns
returns c =
    read_tasks (speeds (goal.at.returns c).After-bits_at-closing) (planned (goal.at.returns c).After-plan_in-p) c.edition_of.ensures c.if-edition_of-edition.false c.judged_with.ensures
