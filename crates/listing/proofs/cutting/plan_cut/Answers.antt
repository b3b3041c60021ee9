use Prim.Native.Nat.{ℕ}
use mathlib.Core.List.{List}
use native.Mathlib.Omega.{arith}
use Rattle.listing.proofs.cutting.Cuts.{Header, Wanted, header, cut_short, cut_low, cut_high, cut_part, cut_whole}
use Rattle.listing.proofs.cutting.plan_cut.Goals.{After-bits_at-count, After-block_length-wanted, Else-n-lt2}
use Rattle.listing.proofs.cutting.plan_cut.Goals as goal

abbrev input : Else-n-lt2 → List ℕ
input c = c.args.input.now

-- the edition and the count are read
read : (c : After-bits_at-count) → Header (c.args.input.now) c.cut_edition-edition.result c.bits_at-count.result
read c = header (c.args.input.now) c.bits_at.ensures c.cut_edition-edition.ensures c.bits_at-count.ensures

known : (c : After-block_length-wanted) →
    Wanted (c.args.input.now) c.cut_edition-edition.result c.bits_at-count.result c.block_length-wanted.result
known c =
    let read : Header (c.args.input.now) c.cut_edition-edition.result c.bits_at-count.result = header (c.args.input.now) c.bits_at.ensures c.cut_edition-edition.ensures c.bits_at-count.ensures in
    record { names = read; low = omega arith; high = omega arith; size = c.block_length-wanted.ensures }

pub returns-then-n-lt2 : goal.returns-then-n-lt2
returns-then-n-lt2 c =
    let all = cut_short c.args.input.now (omega arith) in record {
      value = all.0;
      upper_bound = all.1;
    }

pub returns-then-count-lt1 : goal.returns-then-count-lt1
returns-then-count-lt1 c =
    let all = cut_low (read (goal.at.returns-then-count-lt1 c).After-bits_at-count) (omega arith) in record {
      value = all.0;
      upper_bound = all.1;
    }

pub returns-then-count-gt16 : goal.returns-then-count-gt16
returns-then-count-gt16 c =
    let all = cut_high (read (goal.at.returns-then-count-gt16 c).After-bits_at-count) (omega arith) in record {
      value = all.0;
      upper_bound = all.1;
    }

pub returns-then-wanted-n : goal.returns-then-wanted-n
returns-then-wanted-n c =
    let all = cut_part (known (goal.at.returns-then-wanted-n c).After-block_length-wanted) c.if-wanted-n.true in record {
      value = all.0;
      upper_bound = all.1;
    }

pub returns : goal.returns
returns c =
    let all = cut_whole (known (goal.at.returns c).After-block_length-wanted) c.if-wanted-n.false in record {
      value = all.0;
      upper_bound = all.1;
    }
