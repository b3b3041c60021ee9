use Prim.Native.Nat.{ℕ}
use mathlib.Core.List.{List}
use borrow.Author.Rules.{rules}
use Rattle.plan.specs.Blocks.{tasks_of}
use Rattle.plan.specs.Questions.{judging}
use Rattle.levels.proofs.Tables.{loads_from, refusal_for}
use Rattle.judging.proofs.verdicts.Judgements.{entered_refused, entered_loaded}
use Rattle.judging.proofs.judge.Goals as goal

pub returns-in-Err : goal.returns-in-Err
returns-in-Err c =
    entered_refused c.args.levels.now (λ (speeds : List ℕ). judging speeds c.args.p.count (tasks_of c.args.p)) (tasks_of c.args.p)
    (refusal_for c.args.levels.now {e = c.in-Err.e} (search rules)) c.refused.ensures

pub returns-in-Ok : goal.returns-in-Ok
returns-in-Ok c =
    entered_loaded c.args.levels.now (λ (speeds : List ℕ). judging speeds c.args.p.count (tasks_of c.args.p)) (tasks_of c.args.p)
    (loads_from c.args.levels.now {t = c.in-Ok.table} (search rules)) c.judge_over.ensures
