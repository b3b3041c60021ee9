use borrow.Author.Rules.{rules}
use Rattle.plan.specs.Blocks.{tasks_of}
use Rattle.arith.proofs.Loops.{length_mapped}
use Rattle.plan.proofs.Held.{Held}
use Rattle.plan_writing.proofs.bits.PutLaws.{bit_edition, bit_count_lem}
use Rattle.plan_writing.proofs.bits.plan_bit.Goals.{Start}
use Rattle.plan_writing.proofs.bits.plan_bit.Goals as goal

plan : (c : Start) → Held c.args.p
plan c = record { places = search (length_mapped, rules); most = c.requires.0 }

pub returns-then-k-lt4 : goal.returns-then-k-lt4
returns-then-k-lt4 c = bit_edition c.args.edition (tasks_of c.args.p) c.if-k-lt4.true c.bit_of.ensures

pub returns-then-k-lt9 : goal.returns-then-k-lt9
returns-then-k-lt9 c =
    bit_count_lem (plan (goal.at.returns-then-k-lt9 c).Start) c.args.edition c.if-k-lt4.false c.if-k-lt9.true c.bit_of-then-k-lt9.ensures
