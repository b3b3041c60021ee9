use mathlib.Core.Path.{sym, ap, ◌∙◌}
use borrow.Author.Rules.{rules}
use Rattle.std.proofs.lemmas.Result.{err_from_is_err_and}
use Rattle.arith.specs.Arrays.{padded}
use Rattle.levels.proofs.Tables.{loads_from, refusal_for}
use Rattle.starting.proofs.StartLaws.{start_unloaded, start_loaded}
use Rattle.starting.proofs.start.Goals as goal

-- first, so that a wrong answer is refused here
pub returns-in_err-table : goal.returns-in_err-table
returns-in_err-table c =
    let p = err_from_is_err_and c.from_residual.result c.from_residual.ensures.1 in
    let all = start_unloaded c.args.levels.now c.args.block.now c.args.pairs.now c.args.state.now
    (refusal_for c.args.levels.now {e = c.in_err-table.field-0.0} (search rules)) in
    record { value = rw (p.1, p.2) all.0; state_after = all.1 }

pub start_over-requires : goal.start_over-requires
start_over-requires c =
    let k = loads_from c.args.levels.now {t = c.in_ok-table.table} (search rules) in
    k.padded_is ∙ sym (ap (padded 8 0) k.is)

pub returns : goal.returns
returns c =
    let all = start_loaded c.args.levels.now c.args.block.now c.args.pairs.now c.args.state.now (loads_from c.args.levels.now {t = c.in_ok-table.table} (search rules))
    (c.start_over.ensures.value, c.start_over.ensures.state_after) in
    record { value = all.0; state_after = all.1 }
