use Rattle.std.proofs.Common.{length, rules}
use Rattle.reclaiming.proofs.NumberLaws.{start_most}
use Rattle.dispatcher_calls.proofs.kilmstra_start.Goals as goal

-- the call of `start` is not cited by its name, so that a wrong answer is refused where it returns
pub returns-clause-value : goal.returns-clause-value
returns-clause-value c = cc

pub reply_number-requires : goal.reply_number-requires
reply_number-requires c =
    search (rules, start_most c.args.levels.now c.args.block.now c.args.pairs.now (length c.args.state.now))
