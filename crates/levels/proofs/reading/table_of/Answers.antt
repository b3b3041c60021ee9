use Rattle.std.proofs.lemmas.Result.{err_from_is_err_and}
use native.Mathlib.Omega.{arith}
use Rattle.levels.proofs.Tables.{told_loaded, told_unloaded, table_cut}
use Rattle.levels.proofs.reading.table_of.Goals as goal

-- of any count of its levels, so that a table that is cut is refused at what the function answers
pub invariant_of-result : goal.invariant_of-result
invariant_of-result c =
    let k = told_loaded c.args.block.now c.read_levels-board.ensures c.in_ok-levels.was in
    record { known = table_cut k.table (omega (arith, k.some)) }

pub returns : goal.returns
returns c =
    let k = told_loaded c.args.block.now c.read_levels-board.ensures c.in_ok-levels.was in
    record { number = k.number; is = k.is; padded_is = k.padded_is }

pub returns-in_err-levels : goal.returns-in_err-levels
returns-in_err-levels c =
    let p = err_from_is_err_and c.from_residual.result c.from_residual.ensures.1 in
    let k = told_unloaded c.args.block.now {n = c.in_err-levels.field-0.0.number} c.read_levels-board.ensures c.in_err-levels.was in
    rw (p.1, p.2) record { positive = k.positive; is = k.is }
