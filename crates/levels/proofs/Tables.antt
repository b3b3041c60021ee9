-- The speeds of a table: how many they are, each by its level, and their range; what a level block that was read has loaded.
-- Assumes nothing.
use Prim.Native.Nat.{ℕ, zero, suc, ◌<◌, ◌≤◌}
use mathlib.Core.Path.{◌≡◌, refl, sym, subst, ap, ap₂, ◌∙◌}
use mathlib.Core.Bool.{true}
use mathlib.Core.List.{List}
use native.Mathlib.Omega.{arith}
use lib.ListN.{length, get_or}
use lib.Seq.{length-take-le, get_or-take}
use Rattle.arith.specs.Arrays.{padded}
use Rattle.arith.specs.Asking.{first_no, within}
use Rattle.arith.proofs.Tests.{both_right}
use Rattle.arith.proofs.ArrayLaws.{length-padded}
use Rattle.plan.specs.declared.Board.{Board}
use Rattle.plan.specs.Levels.{speed_of}
use Rattle.plan.specs.LevelBlocks.{speeds_in, rises_from, loading, board_by, read_levels}
use Rattle.plan.proofs.AnswerLaws.{Refusal}
use Rattle.plan.proofs.LevelBlockLaws.{FineTable, rising, speeds_most, loaded_table}
use Rattle.plan.specs.declared.Refused.{Refused}
use Rattle.levels.specs.declared.table.SpeedTable.{SpeedTable}
use Rattle.levels.specs.Code.{loaded, Table}
use Rattle.levels.specs.Reading.{LoadedFrom, RefusedFor}
use Rattle.levels.proofs.LevelLaws.{loaded_padded}
use Rattle.std.specs.declared.result.Result.TheVariants.{Ok}
use Rattle.plan.specs.Counted.{refused, counted_number}

module _ {held : List ℕ} {levels : ℕ} (t : Table held levels) where
  pub levels_are : length (loaded held levels) ≡ levels
  levels_are = length-take-le levels held (omega (arith, t.size, t.few))

  -- a level's speed, as the code reads it
  module _ (level : ℕ) (h : level < levels) where
    pub speed_is : get_or held level 0 ≡ speed_of (loaded held levels) level
    speed_is = sym (get_or-take levels held level 0 h)

    pub speed_positive : 0 < get_or held level 0
    speed_positive =
        subst (λ (s : ℕ). 0 < s) (sym speed_is) (t.rising.positive level (omega (arith, levels_are)))

    pub speed_most : get_or held level 0 ≤ 1000
    speed_most = t.most level h

  -- some of its levels are a table too
  pub table_cut : {fewer : ℕ} → fewer ≤ levels → Table held fewer
  table_cut {fewer} cut =
      let at : (level : ℕ) → level < fewer → get_or (loaded held fewer) level 0 ≡ get_or held level 0 =
      λ level l. get_or-take fewer held level 0 l in
      let kept : length (loaded held fewer) ≡ fewer = length-take-le fewer held (omega (arith, t.size, t.few, cut)) in
      record {
        size = t.size;
        few = omega (arith, t.few, cut);
        rising =
            record {
              positive =
                  λ level l. subst (λ (s : ℕ). 0 < s) (sym (at level (omega (arith, l, kept)))) (speed_positive level (omega (arith, l, kept, cut)));
              faster =
                  λ low high h l.
                  let first : low < fewer = omega (arith, h, l, kept) in
                  let second : high < fewer = omega (arith, l, kept) in
                  let whole : get_or (loaded held levels) low 0 < get_or (loaded held levels) high 0 =
                  t.rising.faster low high h (omega (arith, second, cut, levels_are)) in
                  let x : get_or (loaded held levels) low 0 ≡ get_or held low 0 = get_or-take levels held low 0 (omega (arith, first, cut)) in
                  let y : get_or (loaded held levels) high 0 ≡ get_or held high 0 = get_or-take levels held high 0 (omega (arith, second, cut)) in
                  omega (arith, whole, x, y, at low first, at high second);
            };
        most = λ level l. t.most level (omega (arith, l, cut));
      }

-- a table that was found to rise
pub rises_table : (held : List ℕ) (levels : ℕ) → length held ≡ 8 → levels ≤ 8 → rises_from 0 (loaded held levels) ≡ true → Table held levels
rises_table held levels size few h =
    record {
      size = size;
      few = few;
      rising = rising (loaded held levels) h;
      most =
          λ level l. subst (λ (s : ℕ). s ≤ 1000) (get_or-take levels held level 0 l)
          (speeds_most (loaded held levels) h level (omega (arith, length-take-le levels held (omega arith))));
    }

-- what an accepted level block has loaded
pub record Loads (block held : List ℕ) (levels : ℕ) : Type 0 where
  pub number : first_no (loading block) ≡ 0
  pub is : loaded held levels ≡ speeds_in block
  pub padded_is : held ≡ padded 8 0 (speeds_in block)
  pub some : 1 ≤ levels
  pub table : Table held levels

-- what the answer of a level block tells of its number
board_loaded :
    (speeds : List ℕ) (number : ℕ) {b : Board} {levels : ℕ} →
    b ≡ board_by number speeds →
    b.answer ≡ Ok levels →
    (number ≡ 0) × (levels ≡ length speeds) × (b.speeds ≡ padded 8 0 speeds)
board_loaded speeds zero {b} {levels} e a =
    let told : b.answer ≡ Ok (length speeds) = ap (λ (x : Board). x.answer) e in
    let n : levels ≡ length speeds = cc in
    (refl, n, ap (λ (x : Board). x.speeds) e)
board_loaded speeds (suc m) {b} e a =
    let told : b.answer ≡ refused (suc m) = ap (λ (x : Board). x.answer) e in
    let z : ◌≡◌ {A = ℕ} 0 1 = cc in
    absurd (omega arith)

board_refused :
    (speeds : List ℕ) (number : ℕ) {b : Board} {n : ℕ} →
    b ≡ board_by number speeds →
    b.answer ≡ refused n →
    Refusal number n
board_refused speeds zero {b} e a =
    let told : b.answer ≡ Ok (length speeds) = ap (λ (x : Board). x.answer) e in
    let z : ◌≡◌ {A = ℕ} 0 1 = cc in
    absurd (omega arith)
board_refused speeds (suc m) {b} {n} e a =
    let told : b.answer ≡ refused (suc m) = ap (λ (x : Board). x.answer) e in
    let same : suc m ≡ n = ap counted_number (sym told ∙ a) in
    record { positive = omega arith; is = same }

module _ (block : List ℕ) {b : Board} where
  pub told_loaded : {levels : ℕ} → b ≡ read_levels block → b.answer ≡ Ok levels → Loads block b.speeds levels
  told_loaded {levels} e a =
      let speeds : List ℕ = speeds_in block in
      let told : (first_no (loading block) ≡ 0) × (levels ≡ length speeds) × (b.speeds ≡ padded 8 0 speeds) =
      board_loaded speeds (first_no (loading block)) e a in
      let fine : FineTable speeds = loaded_table block told.0 in
      let is : loaded b.speeds levels ≡ speeds =
      ap₂ (λ (l : List ℕ) (n : ℕ). loaded l n) told.2 told.1 ∙ loaded_padded speeds in
      record {
        number = told.0;
        is = is;
        padded_is = told.2;
        some = omega (arith, fine.some, told.1);
        table =
            rises_table b.speeds levels (ap length told.2 ∙ length-padded 8 0 speeds fine.few)
            (omega (arith, fine.few, told.1))
            (ap (λ (l : List ℕ). rises_from 0 l) is ∙ both_right (within 1 8 (length speeds)) (rises_from 0 speeds) fine.good);
      }

  pub told_unloaded : {n : ℕ} → b ≡ read_levels block → b.answer ≡ refused n → Refusal (first_no (loading block)) n
  told_unloaded e a = board_refused (speeds_in block) (first_no (loading block)) e a

-- a table that was loaded, and a refusal, as the reading of a block tells them
module _ (block : List ℕ) where
  pub loads_from : {t : SpeedTable} → LoadedFrom block t → Loads block t.speeds t.levels
  loads_from {t} k =
      record {
        number = k.number;
        is = k.is;
        padded_is = k.padded_is;
        some = omega (arith, levels_are t.known, ap length k.is, (loaded_table block k.number).some);
        table = t.known;
      }

  pub refusal_for : {e : Refused} → RefusedFor block e → Refusal (first_no (loading block)) e.number
  refusal_for k = record { positive = k.positive; is = k.is }
