use mathlib.Core.Path.{sym}
use native.Mathlib.Omega.{arith}
use lib.Seq.{length-take-le}
use Rattle.listing.proofs.Whole.{front, over_is, cut_is}
use Rattle.listing.proofs.list_into.Goals as goal

pub returns-then-input-gt65536 : goal.returns-then-input-gt65536
returns-then-input-gt65536 c =
    let all = front c.refused_line.ensures (omega (arith, c.requires)) (over_is c.args.input.now (omega arith)) in record {
      value = all.0;
      out_after = all.1.0;
      upper_bound = all.1.1;
    }

pub slice_bounds-plan_listing-end : goal.slice_bounds-plan_listing-end
slice_bounds-plan_listing-end c =
    sym (length-take-le c.level_cut-cut.result c.args.input.now c.level_cut-cut.ensures.upper_bound)

pub returns : goal.returns
returns c =
    let all = front c.plan_listing.ensures (omega (arith, c.requires)) (cut_is c.args.input.now (omega arith) c.level_cut-cut.ensures.value) in record {
      value = all.0;
      out_after = all.1.0;
      upper_bound = all.1.1;
    }
