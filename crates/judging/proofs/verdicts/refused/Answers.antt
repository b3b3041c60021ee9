use Rattle.judging.proofs.verdicts.Judgements.{refused_is}
use Rattle.judging.proofs.verdicts.refused.Goals as goal

pub returns : goal.returns
returns c = refused_is c.args.n c.empty_plan.ensures
