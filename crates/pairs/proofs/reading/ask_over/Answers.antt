use Prim.Native.Nat.{ℕ}
use mathlib.Core.List.{List}
use Rattle.levels.specs.Code.{loaded}
use Rattle.pairs.proofs.reading.ReadPaired.{asked_refused, asked_good}
use Rattle.pairs.proofs.reading.ask_over.Goals.{After-read_paired-j}
use Rattle.std.proofs.lemmas.Result.{err_from_is_err_and}
use Rattle.pairs.proofs.reading.ask_over.Goals as goal

abbrev table : After-read_paired-j → List ℕ
table c = loaded c.args.table.now.speeds c.args.table.now.levels

pub returns-in_err-j : goal.returns-in_err-j
returns-in_err-j c =
    let p = err_from_is_err_and c.from_residual.result c.from_residual.ensures.1 in
    rw (p.1, p.2) (asked_refused (table (goal.at.returns-in_err-j c).After-read_paired-j) c.args.block.now c.args.pairs.now c.read_paired-j.ensures {n = c.in_err-j.field-0.0.number} c.in_err-j.was)

pub returns : goal.returns
returns c =
    asked_good (table (goal.at.returns c).After-read_paired-j) c.args.block.now c.args.pairs.now c.read_paired-j.ensures c.in_ok-j.was
