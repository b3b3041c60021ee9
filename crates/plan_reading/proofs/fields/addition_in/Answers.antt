use Prim.Native.Nat.{ℕ}
use mathlib.Core.Path.{sym, ap, ◌∙◌}
use mathlib.Core.Bool.{Bool}
use native.Mathlib.Omega.{arith}
use borrow.Author.Tests.{eq-eqb, ne_eqb}
use lib.ListN.{drop}
use Rattle.arith.specs.Choice.{pick}
use Rattle.arith.specs.Digits.{number}
use Rattle.arith.specs.Bits.{unpacked}
use Rattle.plan_reading.proofs.fields.addition_in.Goals.{Start}
use Rattle.plan_reading.proofs.fields.addition_in.Goals as goal

-- the number that edition 2 has there
abbrev there : Start → ℕ
there c = number 2 c.args.n (drop c.args.at (unpacked c.args.block.now))

pub returns-then-edition-ne2 : goal.returns-then-edition-ne2
returns-then-edition-ne2 c =
    sym (ap (λ (b : Bool). pick b (there (goal.at.returns-then-edition-ne2 c).Start) 0) (ne_eqb c.args.edition 2 c.if-edition-ne2.true))

pub bits_at-requires : goal.bits_at-requires
bits_at-requires c =
    (omega (arith, c.requires.0), c.requires.1, c.requires.2 c.if-edition-ne2.false)

pub returns : goal.returns
returns c =
    c.bits_at.ensures ∙ sym (ap (λ (b : Bool). pick b (there (goal.at.returns c).Start) 0) (eq-eqb c.args.edition 2 c.if-edition-ne2.false))
