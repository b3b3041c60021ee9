use mathlib.Core.Path.{refl}
use native.Mathlib.Omega.{arith}
use Rattle.state.proofs.layout.LayoutLaws.{BlockBytes, zero_not, zeros_decide, unused_decide}
use Rattle.state.proofs.layout.laid_out.Goals.{After-shared_slice_known-1}
use Rattle.state.proofs.layout.laid_out.Goals as goal

known : (c : After-shared_slice_known-1) → BlockBytes c.args.block.now
known c = record { size = c.requires.0; few = c.requires.1; bytes = λ k. omega (arith, c.shared_slice_known-1.given k) }

pub returns-then-block-ne0 : goal.returns-then-block-ne0
returns-then-block-ne0 c = zero_not (known (goal.at.returns-then-block-ne0 c).After-shared_slice_known-1) refl c.if-block-ne0.true

pub returns-then-not-zero_from : goal.returns-then-not-zero_from
returns-then-not-zero_from c =
    zeros_decide (known (goal.at.returns-then-not-zero_from c).After-shared_slice_known-1) refl c.if-block-ne0.false c.count_at-count.ensures c.zero_from.ensures
    c.if-not-zero_from.true

pub returns : goal.returns
returns c =
    unused_decide (known (goal.at.returns c).After-shared_slice_known-1) refl c.if-block-ne0.false c.count_at-count.ensures c.zero_from.ensures
    c.if-not-zero_from.false c.unused_zero.ensures
