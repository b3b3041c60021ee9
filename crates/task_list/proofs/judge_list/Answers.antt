use mathlib.Core.Path.{ap, ◌∙◌}
use Rattle.plan.specs.declared.Plan.{Plan}
use Rattle.plan.specs.Answers.{judged_plan}
use Rattle.task_list.proofs.Gathering.{judged_gathered}
use Rattle.task_list.proofs.judge_list.Goals as goal

pub returns : goal.returns
returns c =
    c.judge.ensures
    ∙ ap (λ (p : Plan). judged_plan c.args.levels.now p) c.gathered-p.ensures
    ∙ judged_gathered c.args.levels.now c.args.tasks.now
