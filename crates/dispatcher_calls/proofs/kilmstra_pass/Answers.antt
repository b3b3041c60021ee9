use mathlib.Core.Path.{◌≡◌, ap, ◌∙◌}
use Rattle.reclaiming.specs.Calls.{pass_reply}
use Rattle.reclaiming.specs.Numbers.{reply_number, is_yes}
use Rattle.reclaiming.proofs.NumberLaws.{pass_most}
use Rattle.dispatcher_calls.proofs.kilmstra_pass.Goals.{After-pass-r}
use Rattle.dispatcher_calls.proofs.kilmstra_pass.Goals as goal

-- the reply to these ticks and this finish
replied : (c : After-pass-r) → c.pass-r.result ≡ pass_reply c.args.state.now c.args.d (is_yes c.args.finished)
replied c = c.pass-r.ensures.value

pub reply_number-requires : goal.reply_number-requires
reply_number-requires c =
    pass_most c.args.state.now c.args.d (is_yes c.args.finished) c.pass-r.result (replied (goal.at.reply_number-requires c).After-pass-r)

pub returns : goal.returns
returns c = record {
  value = c.reply_number.ensures ∙ ap reply_number (replied (goal.at.returns c).After-pass-r);
  state_after = c.pass-r.ensures.state_after;
}
