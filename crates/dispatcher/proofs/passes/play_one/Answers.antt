use Prim.Native.Nat.{◌/◌, ◌%◌}
use mathlib.Core.Path.{ap, ◌∙◌}
use lib.Dec.{eqb}
use Rattle.reclaiming.specs.Numbers.{reply_number}
use Rattle.reclaiming.proofs.NumberLaws.{pass_most}
use Rattle.dispatcher.proofs.passes.play_one.Goals as goal

pub returns : goal.returns
returns c = record {
  value = c.reply_number.ensures ∙ ap reply_number c.pass-r.ensures.value;
  state_after = c.pass-r.ensures.state_after;
}

pub reply_number-requires : goal.reply_number-requires
reply_number-requires c =
    pass_most c.args.state.now (c.args.p % 4294967296) (eqb (c.args.p / 4294967296 % 2) 1) c.pass-r.result c.pass-r.ensures.value
