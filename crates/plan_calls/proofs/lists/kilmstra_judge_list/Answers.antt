use mathlib.Core.Path.{ap, ◌∙◌}
use Rattle.plan.specs.declared.Plan.{Plan}
use Rattle.plan.specs.declared.Judged.{Judged}
use Rattle.plan.specs.Answers.{judged_plan}
use Rattle.plan.specs.Numbers.{verdict_number}
use Rattle.task_list.proofs.Gathering.{judged_gathered}
use Rattle.plan_calls.proofs.lists.kilmstra_judge_list.Goals as goal

pub returns : goal.returns
returns c =
    c.judged_number.ensures
    ∙ ap (λ (p : Plan). verdict_number (judged_plan c.args.levels.now p).verdict) c.gathered-p.ensures
    ∙ ap (λ (j : Judged). verdict_number j.verdict) (judged_gathered c.args.levels.now c.args.tasks.now)
