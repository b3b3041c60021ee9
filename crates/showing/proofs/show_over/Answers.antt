use native.Mathlib.Omega.{arith}
use borrow.Author.Rules.{rules}
use Rattle.levels.specs.Code.{loaded}
use Rattle.soundness.specs.Code.{Good}
use Rattle.soundness.proofs.SoundLaws.{tested_good}
use Rattle.showing.proofs.ready.ReadySteps.{listed_few, listed_below}
use Rattle.showing.proofs.ShowLaws.{over_own, Showing, show_unsound, show_short, show_stored}
use Rattle.showing.proofs.show_over.Goals.{After-ready-q, In-Some}
use Rattle.showing.proofs.show_over.Goals as goal

good : (c : In-Some) → Good (loaded c.args.table.now.speeds c.args.table.now.levels) c.args.state.now c.in-Some.tested.keys c.in-Some.tested.nominal
good c = tested_good c.args.table.now.known.rising c.in-Some.ensures

showing : (c : After-ready-q) →
    Showing (loaded c.args.table.now.speeds c.args.table.now.levels) c.args.state.now c.in-Some.tested.keys c.in-Some.tested.nominal
    c.count_at.result c.ready-q.result
showing c =
    let good : Good (loaded c.args.table.now.speeds c.args.table.now.levels) c.args.state.now c.in-Some.tested.keys c.in-Some.tested.nominal =
    tested_good c.args.table.now.known.rising c.in-Some.ensures in
    record {
      good = good;
      counted = c.count_at.ensures;
      listed = record { few = omega (arith, c.count_at.ensures, good.holds.few); is = c.ready-q.ensures };
    }

pub test_block-requires : goal.test_block-requires
test_block-requires c = c.requires.size

pub returns-in_default : goal.returns-in_default
returns-in_default c =
    let all = over_own c.requires c.args.buffer.now
    (show_unsound (loaded c.args.table.now.speeds c.args.table.now.levels) c.args.state.now c.args.buffer.now (search rules)) in
    record { value = all.0; buffer_after = all.1 }

pub count_at-requires : goal.count_at-requires
count_at-requires c = (good (goal.at.count_at-requires c).In-Some).holds

pub ready-q-requires : goal.ready-q-requires
ready-q-requires c =
    let holds = (good (goal.at.ready-q-requires c).In-Some).holds in
    (omega (arith, c.count_at.ensures, holds.few), holds.size)

pub overflow_mul-wanted : goal.overflow_mul-wanted
overflow_mul-wanted c = omega (arith, listed_few (showing (goal.at.overflow_mul-wanted c).After-ready-q).listed)

pub returns-then-buffer-wanted : goal.returns-then-buffer-wanted
returns-then-buffer-wanted c =
    let all = over_own c.requires c.args.buffer.now
    (show_short (showing (goal.at.returns-then-buffer-wanted c).After-ready-q) c.args.buffer.now (omega (arith, c.if-buffer-wanted.true))) in
    record { value = all.0; buffer_after = all.1 }

pub put_queue-requires : goal.put_queue-requires
put_queue-requires c =
    let k = showing (goal.at.put_queue-requires c).After-ready-q in record {
      state_len = (k.good.holds.size, listed_few k.listed, c.if-buffer-wanted.false);
      by_index = listed_below k.listed;
    }

pub returns : goal.returns
returns c =
    let all = over_own c.requires c.args.buffer.now
    (show_stored (showing (goal.at.returns c).After-ready-q) c.args.buffer.now c.if-buffer-wanted.false c.put_queue.ensures) in
    record { value = all.0; buffer_after = all.1 }
