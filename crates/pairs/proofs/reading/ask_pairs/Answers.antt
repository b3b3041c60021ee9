use borrow.Author.Rules.{rules}
use Rattle.std.proofs.lemmas.Result.{err_from_is_err_and}
use Rattle.levels.proofs.Tables.{loads_from, refusal_for}
use Rattle.pairs.proofs.reading.ReadPaired.{ask_unloaded, ask_loaded}
use Rattle.pairs.proofs.reading.ask_pairs.Goals as goal

pub returns-in_err-table : goal.returns-in_err-table
returns-in_err-table c =
    let p = err_from_is_err_and c.from_residual.result c.from_residual.ensures.1 in
    rw (p.1, p.2) (ask_unloaded c.args.levels.now c.args.block.now c.args.pairs.now
    (refusal_for c.args.levels.now {e = c.in_err-table.field-0.0} (search rules)))

pub returns : goal.returns
returns c =
    ask_loaded c.args.levels.now c.args.block.now c.args.pairs.now
    (loads_from c.args.levels.now {t = c.in_ok-table.table} (search rules)) c.ask_over.ensures
