use Rattle.plan_reading.proofs.fields.FieldReads.{width_plain, width_added}
use Rattle.plan_reading.proofs.fields.task_width.Goals as goal

pub returns-then-edition-eq2 : goal.returns-then-edition-eq2
returns-then-edition-eq2 c = width_added c.args.edition c.if-edition-eq2.true

pub returns : goal.returns
returns c = width_plain c.args.edition c.if-edition-eq2.false
