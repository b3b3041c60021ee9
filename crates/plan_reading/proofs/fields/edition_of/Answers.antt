use mathlib.Core.Path.{sym, ap}
use borrow.Author.Rules.{rules}
use Rattle.plan.specs.Blocks.{edition_by, tasks_of}
use Rattle.plan_reading.proofs.fields.FieldReads.{adds_none, adds_some}
use Rattle.plan_reading.proofs.fields.edition_of.Goals as goal

pub returns-then-all : goal.returns-then-all
returns-then-all c = sym (ap edition_by (adds_none (tasks_of c.args.p) (search rules)))

pub returns : goal.returns
returns c = sym (ap edition_by (adds_some (tasks_of c.args.p) (search rules)))
