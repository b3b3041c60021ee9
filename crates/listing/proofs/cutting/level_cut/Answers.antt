use Prim.Native.Nat.{ℕ}
use mathlib.Core.List.{List}
use native.Mathlib.Omega.{arith}
use Rattle.listing.proofs.cutting.Cuts.{levels_none, levels_low, levels_high, levels_part, levels_whole}
use Rattle.listing.proofs.cutting.level_cut.Goals.{After-bits_at-count}
use Rattle.listing.proofs.cutting.level_cut.Goals as goal

abbrev input : After-bits_at-count → List ℕ
input c = c.args.input.now

pub returns-then-n-lt1 : goal.returns-then-n-lt1
returns-then-n-lt1 c =
    let all = levels_none c.args.input.now c.if-n-lt1.true in record {
      value = all.0;
      upper_bound = all.1;
    }

pub returns-then-count-lt1 : goal.returns-then-count-lt1
returns-then-count-lt1 c =
    let all = levels_low (input (goal.at.returns-then-count-lt1 c).After-bits_at-count) c.bits_at-count.ensures c.if-count-lt1.true in record {
      value = all.0;
      upper_bound = all.1;
    }

pub returns-then-count-gt8 : goal.returns-then-count-gt8
returns-then-count-gt8 c =
    let all = levels_high (input (goal.at.returns-then-count-gt8 c).After-bits_at-count) c.bits_at-count.ensures (omega (arith, c.if-count-gt8.true)) in record {
      value = all.0;
      upper_bound = all.1;
    }

pub returns-then-size-n : goal.returns-then-size-n
returns-then-size-n c =
    let all = levels_part (input (goal.at.returns-then-size-n c).After-bits_at-count) c.bits_at-count.ensures c.if-count-lt1.false c.if-count-gt8.false c.level_length-size.ensures c.if-size-n.true in record {
      value = all.0;
      upper_bound = all.1;
    }

pub returns : goal.returns
returns c =
    let all = levels_whole (input (goal.at.returns c).After-bits_at-count) c.bits_at-count.ensures c.if-count-lt1.false c.if-count-gt8.false c.level_length-size.ensures c.if-size-n.false in record {
      value = all.0;
      upper_bound = all.1;
    }
