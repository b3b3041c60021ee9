use borrow.Author.Rules.{rules}
use Rattle.arith.proofs.Loops.{length_mapped}
use Rattle.judging.proofs.verdicts.Judgements.{cleared_is}
use Rattle.judging.proofs.verdicts.cleared.Goals as goal

pub returns : goal.returns
returns c =
    cleared_is {p = c.args.p} (record { places = search (length_mapped, rules); most = c.requires }) c.empty_plan.ensures c.copy_from_slice.ensures.after
