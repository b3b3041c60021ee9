use mathlib.Core.Path.{ap, ◌∙◌}
use lib.ListN.{length}
use Rattle.reclaiming.proofs.NumberLaws.{show_most}
use Rattle.plan.specs.Counted.{counted_number}
use Rattle.dispatcher_calls.proofs.kilmstra_show.Goals as goal

-- first, so that a wrong answer is refused here
pub returns : goal.returns
returns c = record {
  value = c.counted_number.ensures ∙ ap counted_number c.show-w.ensures.value;
  buffer_after = c.show-w.ensures.buffer_after;
}

pub counted_number-requires : goal.counted_number-requires
counted_number-requires c =
    show_most c.args.state.now (length c.args.buffer.now) c.show-w.result c.show-w.ensures.value
