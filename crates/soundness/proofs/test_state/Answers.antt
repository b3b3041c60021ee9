use Rattle.levels.specs.Code.{loaded}
use Rattle.soundness.proofs.SoundLaws.{Judged, plan_refused, plan_admitted}
use Rattle.soundness.proofs.test_state.Goals.{After-verdict_of-v}
use Rattle.soundness.proofs.test_state.Goals as goal

judged : (c : After-verdict_of-v) → Judged (loaded c.args.table.now.speeds c.args.table.now.levels) c.args.block.now c.args.count c.plan_of-p.result c.verdict_of-v.result
judged c = record {
  holds = c.requires.0;
  same = c.requires.1;
  some = c.requires.2;
  plan = c.plan_of-p.ensures;
  verdict = c.verdict_of-v.ensures;
}

pub test_admitted-requires-clause-block_value : goal.test_admitted-requires-clause-block_value
test_admitted-requires-clause-block_value c =
    plan_admitted (judged (goal.at.test_admitted-requires-clause-block_value c).After-verdict_of-v) c.in-Ok.is

pub returns-in-Err : goal.returns-in-Err
returns-in-Err c =
    plan_refused (judged (goal.at.returns-in-Err c).After-verdict_of-v) c.in-Err.is
