use borrow.Author.Rules.{rules}
use Rattle.state.proofs.tables.TableLaws.{owns}
use Rattle.passing.proofs.pass.Goals as goal

pub pass_over-requires : goal.pass_over-requires
pass_over-requires c =
    owns c.args.state.now {t = c.in-Some.table} (search rules)
