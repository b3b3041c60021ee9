use mathlib.Core.Path.{ap, ◌∙◌}
use Rattle.plan.specs.declared.Plan.{Plan}
use Rattle.plan.specs.Answers.{judged_plan}
use Rattle.plan.specs.Numbers.{verdict_number}
use Rattle.plan_calls.proofs.kilmstra_plan_judge.Goals as goal

pub returns : goal.returns
returns c =
    c.judged_number.ensures
    ∙ ap (λ (p : Plan). verdict_number (judged_plan c.args.levels.now p).verdict) c.plan_from-p.ensures
