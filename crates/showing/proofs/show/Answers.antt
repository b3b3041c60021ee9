use borrow.Author.Rules.{rules}
use Rattle.state.proofs.tables.TableLaws.{owns}
use Rattle.showing.proofs.ShowLaws.{no_table}
use Rattle.showing.proofs.show.Goals as goal

pub returns-in_default : goal.returns-in_default
returns-in_default c =
    let all = no_table c.args.state.now c.args.buffer.now (search rules) in record {
      value = all.0;
      buffer_after = all.1;
    }

pub show_over-requires : goal.show_over-requires
show_over-requires c =
    owns c.args.state.now {t = c.in-Some.table} (search rules)
