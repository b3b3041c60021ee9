use Prim.Native.Nat.{ℕ}
use mathlib.Core.List.{List}
use native.Mathlib.Omega.{arith}
use Rattle.plan.specs.declared.Task.{Task}
use Rattle.plan.specs.LevelBlocks.{speeds_in}
use Rattle.plan.specs.Blocks.{tasks_in}
use Rattle.reclaiming.specs.Replies.{Reply}
use Rattle.reclaiming.specs.Books.{opened_book}
use Rattle.text.proofs.Puts.{◌then◌, as_text}
use Rattle.listing.proofs.run_lines.Beginning.{opened_clock, started_is}
use Rattle.listing.proofs.run_lines.started_lines.Goals as goal

pub returns : goal.returns
returns c =
    let levels : List ℕ = c.args.levels.now in
    let block : List ℕ = c.args.block.now in
    let ts : List Task = tasks_in block in
    let r : Reply = c.start-reply.result in
    as_text (c.reply_line-at.ensures then c.pass_lines.ensures.by_index (speeds_in levels) ts (opened_book ts r) (opened_clock ts r))
    (started_is levels block c.args.passes.now c.start-reply.ensures.value c.start-reply.ensures.state_after c.start-reply.auto.state)
    (omega arith)
