use Prim.Native.Nat.{ℕ}
use mathlib.Core.List.{List}
use Rattle.arith.specs.Asking.{first_no}
use Rattle.plan.specs.Blocks.{tasks_in}
use Rattle.plan.specs.Questions.{reading}
use Rattle.plan.proofs.JudgedLaws.{Admitted}
use Rattle.levels.specs.Code.{loaded}
use Rattle.pairs.proofs.reading.ReadPaired.{unread, plan_ranged, unpaired, well_paired}
use Rattle.pairs.proofs.reading.read_paired.Goals.{After-read_over-j, In-Ok}
use Rattle.pairs.proofs.reading.read_paired.Goals as goal

-- the speeds, the block and the pairs that are handed over
abbrev table : After-read_over-j → List ℕ
table c = loaded c.args.table.now.speeds c.args.table.now.levels

abbrev block : After-read_over-j → List ℕ
block c = c.args.block.now

abbrev pairs : After-read_over-j → List ℕ
pairs c = c.args.pairs.now

-- the block was accepted
admitted : (c : In-Ok) →
    Admitted (loaded c.args.table.now.speeds c.args.table.now.levels) (first_no (reading (loaded c.args.table.now.speeds c.args.table.now.levels) (c.args.block.now))) (tasks_in (c.args.block.now)) c.read_over-j.result c.in-Ok.field-0.nominal c.in-Ok.field-0.hyperperiod
admitted c = record { judged = c.read_over-j.ensures; told = c.in-Ok.is }

pub pairs_good-requires : goal.pairs_good-requires
pairs_good-requires c = plan_ranged (table (goal.at.pairs_good-requires c).After-read_over-j) (block (goal.at.pairs_good-requires c).After-read_over-j) (pairs (goal.at.pairs_good-requires c).After-read_over-j) (admitted c)

pub returns-then-not-pairs_good : goal.returns-then-not-pairs_good
returns-then-not-pairs_good c =
    unpaired (table (goal.at.returns-then-not-pairs_good c).After-read_over-j) (block (goal.at.returns-then-not-pairs_good c).After-read_over-j) (pairs (goal.at.returns-then-not-pairs_good c).After-read_over-j) (admitted (goal.at.returns-then-not-pairs_good c).In-Ok) c.pairs_good.ensures c.if-not-pairs_good.true c.refused-then-not-pairs_good.ensures

pub returns-in-Err : goal.returns-in-Err
returns-in-Err c =
    unread (table (goal.at.returns-in-Err c).After-read_over-j) (block (goal.at.returns-in-Err c).After-read_over-j) (pairs (goal.at.returns-in-Err c).After-read_over-j) c.read_over-j.ensures c.in-Err.is c.refused.ensures

pub returns-else-not-pairs_good : goal.returns-else-not-pairs_good
returns-else-not-pairs_good c =
    well_paired (table (goal.at.returns-else-not-pairs_good c).After-read_over-j) (block (goal.at.returns-else-not-pairs_good c).After-read_over-j) (pairs (goal.at.returns-else-not-pairs_good c).After-read_over-j) (admitted (goal.at.returns-else-not-pairs_good c).In-Ok) c.pairs_good.ensures c.if-not-pairs_good.false
