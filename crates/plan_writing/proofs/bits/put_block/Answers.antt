use mathlib.Core.Path.{◌≡◌, sym, ◌∙◌}
use native.Mathlib.Omega.{arith}
use borrow.Author.Rules.{rules}
use lib.ListN.{length}
use Rattle.plan.specs.Blocks.{tasks_of, plan_block}
use Rattle.arith.proofs.Loops.{length_mapped}
use Rattle.plan.proofs.BlockBits.{block_length_most}
use Rattle.plan.proofs.Held.{Held}
use Rattle.plan_writing.proofs.bits.PutLaws.{plan_block-length, plan_block_byte, stored_none, stored_more, stored_all}
use Rattle.plan_writing.proofs.bits.put_block.Goals.{After-block_length-n, Start}
use Rattle.plan_writing.proofs.bits.put_block.Goals as goal

plan : (c : Start) → Held c.args.p
plan c = record { places = search (length_mapped, rules); most = c.requires.0 }

-- as many bytes as the block has
long : (c : After-block_length-n) → c.block_length-n.result ≡ length (plan_block (tasks_of c.args.p))
long c =
    let plan : Held c.args.p = record { places = search (length_mapped, rules); most = c.requires.0 } in
    c.block_length-n.ensures ∙ sym (plan_block-length plan c.requires.1)

pub loop-j-init : goal.loop-j-init
loop-j-init c = stored_none (omega (arith, plan_block-length (plan (goal.at.loop-j-init c).Start) c.requires.1))

pub plan_byte-requires : goal.plan_byte-requires
plan_byte-requires c =
    omega (arith, c.block_length-n.ensures, block_length_most c.args.edition c.args.p.count (plan (goal.at.plan_byte-requires c).Start).most)

pub loop-j-preserved : goal.loop-j-preserved
loop-j-preserved c =
    stored_more c.loop-j.invariant (omega (arith, long (goal.at.loop-j-preserved c).After-block_length-n)) (plan_block_byte (plan (goal.at.loop-j-preserved c).Start) c.requires.1 (omega (arith, c.block_length-n.ensures)) c.plan_byte.ensures)

pub returns : goal.returns
returns c = stored_all c.loop-j.invariant (omega (arith, long (goal.at.returns c).After-block_length-n))
