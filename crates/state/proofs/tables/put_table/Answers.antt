use Prim.Native.Nat.{ℕ}
use mathlib.Core.List.{List}
use native.Mathlib.Omega.{arith}
use borrow.Author.Rules.{rules}
use Rattle.state.proofs.tables.TableLaws.{stored_count, stored_speed, stored_table, full_length}
use Rattle.state.proofs.tables.put_table.Goals as goal

pub loop-k-init : goal.loop-k-init
loop-k-init c = (search rules, λ found s. s)

pub put_number-requires-in-loop-k : goal.put_number-requires-in-loop-k
put_number-requires-in-loop-k c = (omega arith, omega (arith, c.loop-k.invariant.0))

pub loop-k-preserved : goal.loop-k-preserved
loop-k-preserved c = (
  search (c.loop-k.invariant.0, rules),
  λ found s.
      stored_speed c.args.speeds.now c.args.levels c.requires.speeds_value (c.loop-k.invariant.1 found s) c.loop-k-test.true
      c.put_number-in-loop-k.ensures,
)

pub shape_of-image : goal.shape_of-image
shape_of-image c =
    omega (arith, c.loop-k.invariant.0, c.requires.image_len.0)

pub returns : goal.returns
returns c =
    let held : List ℕ = c.args.speeds.now in
    let levels : ℕ = c.args.levels in
    stored_table held levels c.requires.speeds_value
    (c.loop-k.invariant.1 c.args.image.now
    (stored_count held levels c.requires.speeds_value (omega (arith, full_length held levels c.requires.speeds_value c.requires.image_len.1, c.requires.image_len.1)) c.requires.image_len.0
    c.put_number.ensures))
    c.loop-k-test.false
