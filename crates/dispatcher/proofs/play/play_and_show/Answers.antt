use native.Mathlib.Omega.{arith}
use lib.ListN.{length}
use lib.Seq.{length-take-le}
use mathlib.Core.Path.{sym}
use Rattle.reclaiming.specs.StateBlock.{state_length}
use Rattle.reclaiming.specs.Play.{played_passes}
use Rattle.reclaiming.proofs.PlayShown.{Ran, shown_not, shown_room, shown_is}
use Rattle.dispatcher.proofs.play.play_and_show.Goals as goal

pub returns-then-first-lt256 : goal.returns-then-first-lt256
returns-then-first-lt256 c =
    let ran : Ran c.args.levels.now c.args.block.now c.args.pairs.now c.args.state.now (played_passes c.args.passes.now (length c.args.replies.now)) c.args.replies.now c.play-first.result c.play-first.new.state c.play-first.new.replies =
    record {
      numbered = c.play-first.ensures.value;
      state_is = c.play-first.ensures.state_after;
      replies_are = c.play-first.ensures.replies_after;
      kept = c.play-first.auto.state;
    } in
    let all = shown_not c.args.levels.now ran c.args.buffer.now (omega arith) in
    record {
      first_value = all.0;
      shown_value = all.1.0;
      state_after = all.1.1.0;
      replies_after = all.1.1.1.0;
      buffer_after = all.1.1.1.1.0;
      played_queue_shown = all.1.1.1.1.1;
    }

pub slice_bounds-show-end : goal.slice_bounds-show-end
slice_bounds-show-end c =
    let ran : Ran c.args.levels.now c.args.block.now c.args.pairs.now c.args.state.now (played_passes c.args.passes.now (length c.args.replies.now)) c.args.replies.now c.play-first.result c.play-first.new.state c.play-first.new.replies =
    record {
      numbered = c.play-first.ensures.value;
      state_is = c.play-first.ensures.state_after;
      replies_are = c.play-first.ensures.replies_after;
      kept = c.play-first.auto.state;
    } in
    shown_room c.args.levels.now ran c.args.buffer.now (omega arith)

pub slice_bounds-show-end-2 : goal.slice_bounds-show-end-2
slice_bounds-show-end-2 c =
    let ran : Ran c.args.levels.now c.args.block.now c.args.pairs.now c.args.state.now (played_passes c.args.passes.now (length c.args.replies.now)) c.args.replies.now c.play-first.result c.play-first.new.state c.play-first.new.replies =
    record {
      numbered = c.play-first.ensures.value;
      state_is = c.play-first.ensures.state_after;
      replies_are = c.play-first.ensures.replies_after;
      kept = c.play-first.auto.state;
    } in
    sym (length-take-le state_length c.play-first.new.state (shown_room c.args.levels.now ran c.args.buffer.now (omega arith)))

pub returns : goal.returns
returns c =
    let ran : Ran c.args.levels.now c.args.block.now c.args.pairs.now c.args.state.now (played_passes c.args.passes.now (length c.args.replies.now)) c.args.replies.now c.play-first.result c.play-first.new.state c.play-first.new.replies =
    record {
      numbered = c.play-first.ensures.value;
      state_is = c.play-first.ensures.state_after;
      replies_are = c.play-first.ensures.replies_after;
      kept = c.play-first.auto.state;
    } in
    let all = shown_is c.args.levels.now ran c.args.buffer.now (omega arith) c.show-shown.ensures.value c.show-shown.ensures.buffer_after in
    record {
      first_value = all.0;
      shown_value = all.1.0;
      state_after = all.1.1.0;
      replies_after = all.1.1.1.0;
      buffer_after = all.1.1.1.1.0;
      played_queue_shown = all.1.1.1.1.1;
    }
