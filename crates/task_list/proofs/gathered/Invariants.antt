use Rattle.std.proofs.Common.{◌≡◌, [], drop}
use Rattle.plan.specs.Blocks.{plan_of}
use Rattle.task_list.specs.Lists.{gathered_from}
use Rattle.task_list.proofs.gathered.Given as goal

abbrev pub invariant-loop-task : goal.invariant-loop-task
invariant-loop-task l = gathered_from l.q (drop l.task-index l.tasks) ≡ gathered_from (plan_of []) l.tasks
