use borrow.Author.Rules.{rules}
use Rattle.std.proofs.lemmas.Result.{err_from_is_err_and}
use Rattle.levels.proofs.Tables.{loads_from, refusal_for}
use Rattle.plan_writing.proofs.WriteLaws.{writes_refused, writes_loaded}
use Rattle.plan_writing.proofs.write.Goals as goal

-- first, so that a wrong answer is refused here
pub returns-in_err-table : goal.returns-in_err-table
returns-in_err-table c =
    let p = err_from_is_err_and c.from_residual.result c.from_residual.ensures.1 in
    let all = writes_refused c.args.levels.now c.args.p c.args.buffer.now
    (refusal_for c.args.levels.now {e = c.in_err-table.field-0.0} (search rules)) in record {
      value = rw (p.1, p.2) all.0;
      buffer_after = all.1;
    }

pub returns : goal.returns
returns c =
    let all = writes_loaded c.args.levels.now c.args.p c.args.buffer.now (loads_from c.args.levels.now {t = c.in_ok-table.table} (search rules))
    (c.write_over.ensures.value, c.write_over.ensures.buffer_after) in record {
      value = all.0;
      buffer_after = all.1;
    }
