use Rattle.plan_calls.proofs.judged.Verdicts.{judged_most}
use Rattle.plan_calls.proofs.judged.judged_number.Goals as goal

pub verdict_number-requires : goal.verdict_number-requires
verdict_number-requires c = judged_most c.args.levels.now c.args.p c.judge-j.ensures
