use Prim.Native.Nat.{ℕ}
use mathlib.Core.Path.{◌≡◌}
use mathlib.Core.List.{List}
use borrow.Author.Rules.{rules}
use lib.ListN.{length}
use Rattle.plan.specs.LevelBlocks.{speeds_in}
use Rattle.plan.specs.Blocks.{tasks_of, plan_block}
use Rattle.plan.specs.Answers.{write_number}
use Rattle.arith.proofs.Loops.{length_mapped}
use Rattle.plan.proofs.AnswerLaws.{Refusal, told_unwritten}
use Rattle.judging.proofs.verdicts.Judgements.{refused_as}
use Rattle.plan_writing.proofs.round_trips.RoundTrips.{Rewritten, rewritten, front_length, front_fits, reads_back}
use Rattle.plan_writing.proofs.round_trips.reread.Goals.{After-write-w, In-Ok, In-Err, Start}
use Rattle.plan_writing.proofs.round_trips.reread.Goals as goal

size : (c : Start) → length c.args.p.tasks ≡ 16
size c = search (length_mapped, rules)

abbrev table : After-write-w → List ℕ
table c = c.args.levels.now

refusal : (c : In-Err) → Refusal (write_number (c.args.levels.now) c.args.p (length (c.args.buffer.now))) c.in-Err.e.number
refusal c =
    told_unwritten (plan_block (tasks_of c.args.p)) (write_number (c.args.levels.now) c.args.p (length (c.args.buffer.now))) c.write-w.ensures.value c.in-Err.is

block : (c : In-Ok) → Rewritten (c.args.levels.now) c.args.p (c.args.buffer.now) (c.write-w.new.buffer) c.in-Ok.n
block c = rewritten c.write-w.ensures.value c.in-Ok.is c.write-w.ensures.buffer_after

pub slice_bounds-read-end : goal.slice_bounds-read-end
slice_bounds-read-end c = front_fits (block c)

pub slice_bounds-read-end-in-Ok : goal.slice_bounds-read-end-in-Ok
slice_bounds-read-end-in-Ok c = front_length (block c)

pub returns-in-Err : goal.returns-in-Err
returns-in-Err c =
    let r = refusal (goal.at.returns-in-Err c).In-Err in record {
      value = refused_as (speeds_in (table (goal.at.returns-in-Err c).After-write-w)) (tasks_of c.args.p) c.refused.ensures r.positive r.is;
      buffer_after = c.write-w.ensures.buffer_after;
    }

pub returns-in-Ok : goal.returns-in-Ok
returns-in-Ok c = record {
  value = reads_back (block (goal.at.returns-in-Ok c).In-Ok) (size (goal.at.returns-in-Ok c).Start) c.read.ensures;
  buffer_after = c.write-w.ensures.buffer_after;
}
