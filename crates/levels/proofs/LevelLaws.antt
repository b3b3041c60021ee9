-- Speeds that rise, as a loop tells it; how long a level block is; a table that holds a list.
-- Assumes nothing.
use Prim.Native.Nat.{ℕ, suc, ◌+◌, ◌-◌, ◌*◌, ◌/◌, ◌<◌, ◌≤◌}
use mathlib.Core.Path.{◌≡◌, refl, sym, ap, ◌∙◌}
use mathlib.Core.Bool.{Bool, false}
use mathlib.Core.List.{List, [], ◌∷◌}
use native.Mathlib.Decide.{dec_le}
use native.Mathlib.Omega.{arith}
use borrow.Author.Tests.{le-leb, lt-leb}
use lib.Dec.{leb, ltb}
use lib.ListN.{length, get_or, drop, replicate}
use lib.Seq.{take-append_seam}
use Rattle.arith.specs.Choice.{both}
use Rattle.arith.specs.Need.{need}
use Rattle.arith.specs.Arrays.{padded}
use Rattle.arith.proofs.Tests.{both_false}
use Rattle.arith.proofs.Loops.{rest_cons, rest_end}
use Rattle.plan.specs.LevelBlocks.{level_bit_count, level_length, rises_from}
use Rattle.levels.specs.Code.{loaded}

-- speeds that rise, of which the last is at most 1,000
abbrev pub climbs_from : ℕ → List ℕ → Bool
climbs_from last [] = leb last 1000
climbs_from last (s ∷ ss) = both (ltb last s) (climbs_from s ss)

-- from above 1,000 they do not
climbs_over : (last : ℕ) (l : List ℕ) → 1000 < last → climbs_from last l ≡ false
climbs_over last [] h = lt-leb last 1000 h
climbs_over last (s ∷ ss) h =
    elim (dec_le (suc last) s) [
      | yes k ↦ ap (λ (b : Bool). both (ltb last s) b) (climbs_over s ss (omega arith)) ∙ both_false (ltb last s)
      | no k ↦ ap (λ (b : Bool). both b (climbs_from s ss)) (lt-leb (suc last) s (omega arith))
    ]

-- so each of them is, and the other way round
pub climbs_is : (last : ℕ) (l : List ℕ) → last ≤ 1000 → climbs_from last l ≡ rises_from last l
climbs_is last [] h = le-leb last 1000 h
climbs_is last (s ∷ ss) h =
    elim (dec_le s 1000) [
      | yes k ↦
          ap (λ (b : Bool). both (ltb last s) b)
          (climbs_is s ss k ∙ sym (ap (λ (b : Bool). both b (rises_from s ss)) (le-leb s 1000 k)))
      | no k ↦
          ap (λ (b : Bool). both (ltb last s) b)
          (climbs_over s ss (omega arith) ∙ sym (ap (λ (b : Bool). both b (rises_from s ss)) (lt-leb s 1000 (omega arith))))
    ]

-- as a loop that counts up tells it: what is still to be tested is the answer
module _ (held : List ℕ) (levels : ℕ) (le : levels ≤ length held) {answer : Bool} where
  module _ (last i : ℕ) (h : i < levels) (inv : climbs_from last (drop i (loaded held levels)) ≡ answer) where
    abbrev rest : Bool
    rest = climbs_from (get_or held i 0) (drop (i + 1) (loaded held levels))

    told : both (ltb last (get_or held i 0)) rest ≡ answer
    told = sym (ap (λ (l : List ℕ). climbs_from last l) (rest_cons held levels i 0 le h)) ∙ inv

    pub rises_not : get_or held i 0 ≤ last → false ≡ answer
    rises_not q = sym (ap (λ (b : Bool). both b rest) (lt-leb (suc last) (get_or held i 0) (omega arith))) ∙ told

    pub rises_more : last < get_or held i 0 → climbs_from (get_or held i 0) (drop (i + 1) (loaded held levels)) ≡ answer
    rises_more p = sym (ap (λ (b : Bool). both b rest) (le-leb (suc last) (get_or held i 0) p)) ∙ told

  pub rises_end : (last i : ℕ) → i ≡ levels → climbs_from last (drop i (loaded held levels)) ≡ answer → leb last 1000 ≡ answer
  rises_end last i e inv =
      ap (λ (l : List ℕ). climbs_from last l) (sym (rest_end held levels le) ∙ ap (λ (n : ℕ). drop n (loaded held levels)) (sym e)) ∙ inv

-- how many bytes a block has: enough for its bits, with less than a byte to spare
module _ (count : ℕ) where
  pub level_length_is : level_length count ≡ (4 + 10 * count + 7) / 8
  unfolding need
  level_length_is = refl

  pub level_length_covers : level_bit_count count ≤ 8 * level_length count
  level_length_covers = omega (arith, level_length_is)

  pub level_length_tight : 8 * level_length count < level_bit_count count + 8
  level_length_tight = omega (arith, level_length_is)

-- the speeds of a table that holds a list are that list
pub loaded_padded : (speeds : List ℕ) → loaded (padded 8 0 speeds) (length speeds) ≡ speeds
loaded_padded speeds = take-append_seam speeds (replicate (8 - length speeds) 0)
