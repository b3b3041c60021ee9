use Prim.Native.Nat.{ℕ}
use mathlib.Core.List.{List}
use Rattle.arith.specs.Asking.{Question}
use Rattle.plan.specs.Blocks.{tasks_in}
use Rattle.plan.specs.Questions.{reading}
use borrow.Author.Rules.{rules}
use Rattle.levels.proofs.Tables.{loads_from, refusal_for}
use Rattle.judging.proofs.verdicts.Judgements.{entered_refused, entered_loaded}
use Rattle.plan_reading.proofs.read.Goals.{After-table_of}
use Rattle.plan_reading.proofs.read.Goals as goal

-- the level block, and the plan's
abbrev table : After-table_of → List ℕ
table c = c.args.levels.now

abbrev block : After-table_of → List ℕ
block c = c.args.block.now

-- what is asked of the block over some levels
abbrev asked : After-table_of → List ℕ → List Question
asked c speeds = reading speeds (block c)

-- first, so that a wrong answer is refused here
pub returns-in-Err : goal.returns-in-Err
returns-in-Err c =
    entered_refused (table (goal.at.returns-in-Err c).After-table_of) (asked (goal.at.returns-in-Err c).After-table_of) (tasks_in (block (goal.at.returns-in-Err c).After-table_of))
    (refusal_for c.args.levels.now {e = c.in-Err.e} (search rules)) c.refused.ensures

pub returns-in-Ok : goal.returns-in-Ok
returns-in-Ok c =
    entered_loaded (table (goal.at.returns-in-Ok c).After-table_of) (asked (goal.at.returns-in-Ok c).After-table_of) (tasks_in (block (goal.at.returns-in-Ok c).After-table_of))
    (loads_from c.args.levels.now {t = c.in-Ok.table} (search rules)) c.read_over.ensures
