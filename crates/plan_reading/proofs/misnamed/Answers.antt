use Rattle.plan.specs.Blocks.{tasks_of}
use Rattle.plan_reading.proofs.ReadLaws.{misnamed_fine, misnamed_out}
use Rattle.plan_reading.proofs.misnamed.Goals as goal

pub returns-then-in_range : goal.returns-then-in_range
returns-then-in_range c = misnamed_fine (tasks_of c.args.p) c.in_range.ensures c.if-in_range.true

pub returns : goal.returns
returns c = misnamed_out (tasks_of c.args.p) c.in_range.ensures c.if-in_range.false
