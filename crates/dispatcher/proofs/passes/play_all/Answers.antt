use native.Mathlib.Omega.{arith}
use Rattle.dispatcher.proofs.passes.PlaySteps.{played_none, played_next, played_out}
use Rattle.dispatcher.proofs.passes.play_all.Goals as goal

pub loop-i-init : goal.loop-i-init
loop-i-init c =
    played_none c.args.state.now c.args.passes.now c.args.replies.now

pub loop-i-preserved : goal.loop-i-preserved
loop-i-preserved c =
    played_next c.loop-i.invariant (omega (arith, c.min-i-end.ensures)) (omega (arith, c.min-i-end.ensures, c.loop-i.auto.replies)) c.play_one.auto.state c.play_one.ensures.state_after
    c.play_one.ensures.value

pub shape_of-state : goal.shape_of-state
shape_of-state c = c.loop-i.invariant.state_kept

pub shape_of-replies : goal.shape_of-replies
shape_of-replies c = c.loop-i.invariant.replies_kept

pub returns : goal.returns
returns c =
    let all = played_out c.loop-i.invariant c.min-i-end.ensures c.loop-i-test.false in record {
      state_after = all.0;
      replies_after = all.1;
    }
