use Rattle.plan_calls.proofs.Packing.{pairs_most}
use Rattle.plan_calls.proofs.kilmstra_pairs.Goals as goal

pub counted_number-requires : goal.counted_number-requires
counted_number-requires c = pairs_most c.args.levels.now c.args.block.now c.args.pairs.now c.ask_pairs-p.ensures
