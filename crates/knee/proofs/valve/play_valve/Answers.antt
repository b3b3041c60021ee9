use lib.ListN.{length}
use Rattle.reclaiming.specs.Play.{played_passes}
use Rattle.knee.proofs.RefreshLaws.{Refreshed, refreshed}
use Rattle.knee.proofs.valve.play_valve.Goals.{After-play}
use Rattle.knee.proofs.valve.play_valve.Goals as goal

-- from the promises on time and within of playing's contract
valve : (c : After-play) →
    Refreshed c.args.levels.now c.args.block.now c.play.result
    (played_passes c.args.passes.now (length c.args.replies.now))
    c.play.new.replies
valve c =
    refreshed c.args.levels.now c.args.block.now c.play.result
    (played_passes c.args.passes.now (length c.args.replies.now))
    c.play.new.replies c.play.ensures.played_on_time c.play.ensures.played_within

pub returns : goal.returns
returns c =
    record {
      value = c.play.ensures.value;
      state_after = c.play.ensures.state_after;
      replies_after = c.play.ensures.replies_after;
      played_refresh_apart = (valve (goal.at.returns c).After-play).apart;
      played_refresh_goes_on = (valve (goal.at.returns c).After-play).goes_on;
      played_refresh_age = (valve (goal.at.returns c).After-play).age;
    }
