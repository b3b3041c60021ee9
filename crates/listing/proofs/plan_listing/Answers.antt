use Prim.Native.Nat.{ℕ}
use mathlib.Core.Path.{sym}
use mathlib.Core.List.{List}
use native.Mathlib.Omega.{arith}
use lib.Seq.{length-take-le}
use Rattle.text.proofs.Puts.{◌then◌, as_text}
use Rattle.listing.proofs.Whole.{Read, refused_is, admitted_is}
use Rattle.listing.proofs.plan_listing.Goals.{After-read-judged}
use Rattle.listing.proofs.plan_listing.Goals as goal

pub slice_bounds-read-end : goal.slice_bounds-read-end
slice_bounds-read-end c =
    sym (length-take-le c.plan_cut-cut.result c.args.input.now c.plan_cut-cut.ensures.upper_bound)

-- what is known of the input once it is read
abbrev levels : After-read-judged → List ℕ
levels c = c.args.levels.now

abbrev input : After-read-judged → List ℕ
input c = c.args.input.now

known : (c : After-read-judged) → Read (levels c) (input c) c.plan_cut-cut.result c.read-judged.result
known c = record { is_cut = c.plan_cut-cut.ensures.value; is_read = c.read-judged.ensures }

pub returns-in_default : goal.returns-in_default
returns-in_default c =
    as_text c.refused_line.ensures (refused_is (known (goal.at.returns-in_default c).After-read-judged) c.refusal_of.ensures c.in_default.is) (omega arith)

pub slice_bounds-started_lines-end : goal.slice_bounds-started_lines-end
slice_bounds-started_lines-end c =
    sym (length-take-le c.plan_cut-cut.result c.args.input.now c.plan_cut-cut.ensures.upper_bound)

pub returns : goal.returns
returns c =
    as_text (c.plan_line-at.ensures then c.started_lines.ensures) (admitted_is (known (goal.at.returns c).After-read-judged) c.in-Ok.is) (omega arith)
