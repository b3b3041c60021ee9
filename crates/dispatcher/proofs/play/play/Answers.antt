use lib.ListN.{length}
use lib.Seq.{length-take-le}
use mathlib.Core.Path.{sym}
use Prim.Native.Nat.{◌≤◌}
use Rattle.reclaiming.specs.StateBlock.{state_length}
use Rattle.reclaiming.specs.Play.{played_passes}
use Rattle.reclaiming.proofs.NumberLaws.{start_most}
use Rattle.reclaiming.proofs.PlayLaws.{Begun, play_room, play_refused, play_accepted}
use Rattle.dispatcher.proofs.play.play.Goals.{Else-not-is_order}
use Rattle.dispatcher.proofs.play.play.Goals as goal

-- an accepted start had room for a state
room : (c : Else-not-is_order) → state_length ≤ length c.start-first.new.state
room c =
    let begun : Begun c.args.levels.now c.args.block.now c.args.pairs.now c.args.state.now c.start-first.result c.is_order.result c.start-first.new.state =
    record {
      replied = c.start-first.ensures.value;
      tested = c.is_order.ensures;
      left = c.start-first.ensures.state_after;
      kept = c.start-first.auto.state;
    } in
    play_room c.args.levels.now begun c.if-not-is_order.false

pub reply_number-requires : goal.reply_number-requires
reply_number-requires c =
    start_most c.args.levels.now c.args.block.now c.args.pairs.now (length c.args.state.now) c.start-first.result c.start-first.ensures.value

pub returns-then-not-is_order : goal.returns-then-not-is_order
returns-then-not-is_order c =
    let begun : Begun c.args.levels.now c.args.block.now c.args.pairs.now c.args.state.now c.start-first.result c.is_order.result c.start-first.new.state =
    record {
      replied = c.start-first.ensures.value;
      tested = c.is_order.ensures;
      left = c.start-first.ensures.state_after;
      kept = c.start-first.auto.state;
    } in
    let all = play_refused c.args.levels.now begun (played_passes c.args.passes.now (length c.args.replies.now)) c.args.replies.now c.reply_number.ensures c.if-not-is_order.true in
    record {
      value = all.0;
      state_after = all.1.0;
      replies_after = all.1.1.0;
      played_on_time = all.1.1.1.0;
      played_in_time = all.1.1.1.1.0;
      played_most_urgent = all.1.1.1.1.1.0;
      played_pairs_kept = all.1.1.1.1.1.1.0;
      played_total_told = all.1.1.1.1.1.1.1.0;
      played_by_books = all.1.1.1.1.1.1.1.1.0;
      played_earliness = all.1.1.1.1.1.1.1.1.1.0;
      played_ahead = all.1.1.1.1.1.1.1.1.1.1.0;
      played_within = all.1.1.1.1.1.1.1.1.1.1.1.0;
      played_plainly = all.1.1.1.1.1.1.1.1.1.1.1.1.0;
      played_above_floor = all.1.1.1.1.1.1.1.1.1.1.1.1.1;
    }

pub slice_bounds-play_all-end : goal.slice_bounds-play_all-end
slice_bounds-play_all-end c = room c

pub slice_bounds-play_all-end-2 : goal.slice_bounds-play_all-end-2
slice_bounds-play_all-end-2 c = sym (length-take-le state_length c.start-first.new.state (room (goal.at.slice_bounds-play_all-end-2 c).Else-not-is_order))

pub reply_number-requires-2 : goal.reply_number-requires-2
reply_number-requires-2 c =
    start_most c.args.levels.now c.args.block.now c.args.pairs.now (length c.args.state.now) c.start-first.result c.start-first.ensures.value

pub returns : goal.returns
returns c =
    let begun : Begun c.args.levels.now c.args.block.now c.args.pairs.now c.args.state.now c.start-first.result c.is_order.result c.start-first.new.state =
    record {
      replied = c.start-first.ensures.value;
      tested = c.is_order.ensures;
      left = c.start-first.ensures.state_after;
      kept = c.start-first.auto.state;
    } in
    let all = play_accepted c.args.levels.now begun (played_passes c.args.passes.now (length c.args.replies.now)) c.args.replies.now c.reply_number-2.ensures c.if-not-is_order.false
    c.play_all.ensures.state_after c.play_all.ensures.replies_after in
    record {
      value = all.0;
      state_after = all.1.0;
      replies_after = all.1.1.0;
      played_on_time = all.1.1.1.0;
      played_in_time = all.1.1.1.1.0;
      played_most_urgent = all.1.1.1.1.1.0;
      played_pairs_kept = all.1.1.1.1.1.1.0;
      played_total_told = all.1.1.1.1.1.1.1.0;
      played_by_books = all.1.1.1.1.1.1.1.1.0;
      played_earliness = all.1.1.1.1.1.1.1.1.1.0;
      played_ahead = all.1.1.1.1.1.1.1.1.1.1.0;
      played_within = all.1.1.1.1.1.1.1.1.1.1.1.0;
      played_plainly = all.1.1.1.1.1.1.1.1.1.1.1.1.0;
      played_above_floor = all.1.1.1.1.1.1.1.1.1.1.1.1.1;
    }
