use Prim.Native.Nat.{ℕ}
use mathlib.Core.Path.{sym, ◌∙◌}
use mathlib.Core.List.{List}
use borrow.Author.Rules.{rules}
use Rattle.levels.specs.Code.{loaded}
use Rattle.arith.proofs.Loops.{length_mapped}
use Rattle.plan.proofs.Held.{Held}
use Rattle.plan_writing.proofs.bits.PutLaws.{plan_block-length}
use Rattle.plan_writing.proofs.WriteLaws.{Rated, Wanted, rated_fine, wrote_low, wrote_high, wrote_refused, wrote_short, wrote_block}
use Rattle.plan_writing.proofs.write_over.Goals.{After-block_length-wanted, After-verdict_of, Else-count-gt16, Start}
use Rattle.std.proofs.lemmas.Result.{err_from_is_err_and}
use Rattle.plan_writing.proofs.write_over.Goals as goal

-- the levels' speeds
abbrev speeds : Start → List ℕ
speeds c = loaded c.args.table.now.speeds c.args.table.now.levels

plan : (c : Else-count-gt16) → Held c.args.p
plan c = record { places = search (length_mapped, rules); most = c.if-count-gt16.false }

-- the plan's tasks are judged
rated : (c : After-verdict_of) → Rated (loaded c.args.table.now.speeds c.args.table.now.levels) c.args.p c.verdict_of.result
rated c = record { low = c.if-count-lt1.false; high = c.if-count-gt16.false; verdict_is = c.verdict_of.ensures }

abbrev buffer : After-block_length-wanted → List ℕ
buffer c = c.args.buffer.now

wanted : (c : After-block_length-wanted) → Wanted (loaded c.args.table.now.speeds c.args.table.now.levels) c.args.p c.block_length-wanted.result
wanted c =
    let rated : Rated (loaded c.args.table.now.speeds c.args.table.now.levels) c.args.p c.verdict_of.result = record { low = c.if-count-lt1.false; high = c.if-count-gt16.false; verdict_is = c.verdict_of.ensures } in
    let plan : Held c.args.p = record { places = search (length_mapped, rules); most = c.if-count-gt16.false } in
    record {
      fine = rated_fine rated c.in_ok-verdict_of.was;
      wanted = c.block_length-wanted.ensures ∙ sym (plan_block-length plan c.edition_of-edition.ensures);
    }

pub returns-then-count-lt1 : goal.returns-then-count-lt1
returns-then-count-lt1 c =
    let all = wrote_low (speeds (goal.at.returns-then-count-lt1 c).Start) c.args.p c.args.buffer.now c.if-count-lt1.true in record {
      value = all.0;
      buffer_after = all.1;
    }

pub returns-then-count-gt16 : goal.returns-then-count-gt16
returns-then-count-gt16 c =
    let all = wrote_high (speeds (goal.at.returns-then-count-gt16 c).Start) c.args.p c.args.buffer.now c.if-count-gt16.true in record {
      value = all.0;
      buffer_after = all.1;
    }

pub returns-in_err-verdict_of : goal.returns-in_err-verdict_of
returns-in_err-verdict_of c =
    let p = err_from_is_err_and c.from_residual.result c.from_residual.ensures.1 in
    let all = wrote_refused (rated (goal.at.returns-in_err-verdict_of c).After-verdict_of) c.args.buffer.now {n = c.in_err-verdict_of.field-0.0.number} c.in_err-verdict_of.was in record {
      value = rw (p.1, p.2) all.0;
      buffer_after = all.1;
    }

pub returns-then-buffer-wanted : goal.returns-then-buffer-wanted
returns-then-buffer-wanted c =
    let all = wrote_short (wanted (goal.at.returns-then-buffer-wanted c).After-block_length-wanted) (buffer (goal.at.returns-then-buffer-wanted c).After-block_length-wanted) c.if-buffer-wanted.true in record {
      value = all.0;
      buffer_after = all.1;
    }

pub returns : goal.returns
returns c =
    let all = wrote_block (wanted (goal.at.returns c).After-block_length-wanted) (buffer (goal.at.returns c).After-block_length-wanted) c.if-buffer-wanted.false c.put_block.ensures in record {
      value = all.0;
      buffer_after = all.1;
    }
