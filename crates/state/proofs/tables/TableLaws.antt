-- What a block's own table is found to be, and how a table is stored.
-- Assumes nothing.
use Prim.Native.Nat.{ℕ, suc, ◌+◌, ◌*◌, ◌<◌, ◌≤◌}
use mathlib.Core.Path.{◌≡◌, refl, sym, ap, ap₂, ◌∙◌}
use mathlib.Core.Bool.{Bool, true, false, true≢false}
use mathlib.Core.List.{List}
use native.Mathlib.Numerals.{add-one}
use native.Mathlib.Omega.{arith}
use borrow.Author.Tests.{eqb-true, eq-eqb, ne_eqb}
use lib.Dec.{eqb}
use lib.ListN.{length, get_or, take, length-take}
use lib.Seq.{sets, length-sets, length-take-le}
use Rattle.arith.specs.Choice.{both}
use Rattle.arith.specs.Arrays.{padded}
use Rattle.arith.specs.Digits.{digits}
use Rattle.arith.specs.Asking.{within}
use Rattle.arith.specs.Ranges.{list_to}
use Rattle.arith.proofs.Tests.{both_left, both_right, both_true, passed, failed, tested}
use Rattle.arith.proofs.QuestionLaws.{within_under, within_over, within_true}
use Rattle.arith.proofs.ArrayLaws.{padded_at, length-padded}
use Rattle.arith.proofs.RangeLaws.{take-list_to}
use Rattle.plan.specs.LevelBlocks.{rises_from, table_good}
use Rattle.plan.proofs.LevelBlockLaws.{FineTable, fine_table}
use Rattle.levels.specs.Code.{loaded, Table}
use Rattle.levels.proofs.Tables.{levels_are, speed_is, rises_table}
use Rattle.reclaiming.specs.Passes.{in_time}
use Rattle.reclaiming.specs.Fields.{Field, width, value_in, fields_bytes, field_at, offset_of}
use Rattle.reclaiming.specs.StateBlock.{State, level_places, speed_row, tail_fields, speed_field, tail_at, state_length, level_count, speed_in, decode, laid_out}
use Rattle.reclaiming.specs.Questions.{state_sound, sound_at, sound}
use Rattle.reclaiming.proofs.FieldLaws.{store_next}
use Rattle.reclaiming.proofs.StateCodec.{StorableTable, speed_row_lem, laid_length}
use Rattle.reclaiming.proofs.Soundness.{fine_stored}
use Rattle.state.proofs.TailLaws.{levels_in, speed_offset}
use Rattle.levels.specs.declared.table.SpeedTable.{SpeedTable}
use Rattle.state.specs.Tables.{own_table, OwnTable, Owns, table_only, table_bytes}

-- a block's length, and then its table, decide
module _ (bytes : List ℕ) where
  pub none_long : (length bytes ≡ state_length → ⊥) → own_table bytes ≡ false
  none_long f = ap (λ (t : Bool). both t (table_good (decode bytes).speeds)) (ne_eqb (length bytes) state_length f)

  module _ (size : length bytes ≡ state_length) where
    table_is : own_table bytes ≡ both (within 1 8 (level_count bytes)) (rises_from 0 (decode bytes).speeds)
    table_is =
        ap₂ (λ (t : Bool) (n : ℕ). both t (both (within 1 8 n) (rises_from 0 (decode bytes).speeds))) (eq-eqb (length bytes) state_length size)
        (levels_in bytes)

    pub none_few : level_count bytes < 1 → own_table bytes ≡ false
    none_few h = table_is ∙ ap (λ (t : Bool). both t (rises_from 0 (decode bytes).speeds)) (within_under 1 8 (level_count bytes) h)

    pub none_many : 8 < level_count bytes → own_table bytes ≡ false
    none_many h = table_is ∙ ap (λ (t : Bool). both t (rises_from 0 (decode bytes).speeds)) (within_over 1 8 (level_count bytes) h)

    pub some_rises : 1 ≤ level_count bytes → level_count bytes ≤ 8 → own_table bytes ≡ rises_from 0 (decode bytes).speeds
    some_rises l h = table_is ∙ ap (λ (t : Bool). both t (rises_from 0 (decode bytes).speeds)) (within_true 1 8 (level_count bytes) l h)

-- the first so many of the numbers at all places are the state's speeds
loaded_own :
    (bytes : List ℕ) {held : List ℕ} {count : ℕ} →
    held ≡ list_to level_places (speed_in bytes) →
    count ≡ level_count bytes →
    count ≤ 8 →
    loaded held count ≡ (decode bytes).speeds
loaded_own bytes {held} {count} gathered counted few =
    ap (λ (l : List ℕ). loaded l count) gathered
    ∙ take-list_to count level_places (speed_in bytes) 0 few
    ∙ ap (λ (n : ℕ). list_to n (speed_in bytes)) counted

pub record Gathers (bytes held : List ℕ) (count : ℕ) : Type 0 where
  pub size : length bytes ≡ state_length
  pub some : 1 ≤ count
  pub few : count ≤ 8
  pub counted : count ≡ level_count bytes
  pub gathered : held ≡ list_to level_places (speed_in bytes)

module _ {bytes held : List ℕ} {count : ℕ} (k : Gathers bytes held count) where
  pub gathered_length : length held ≡ 8
  gathered_length = ap length k.gathered

  rises_is : {b : Bool} → b ≡ rises_from 0 (loaded held count) → own_table bytes ≡ b
  rises_is e =
      some_rises bytes k.size (omega (arith, k.some, k.counted)) (omega (arith, k.few, k.counted))
      ∙ ap (λ (l : List ℕ). rises_from 0 l)
      (sym (loaded_own bytes k.gathered k.counted k.few))
      ∙ sym e

  -- the two ways out of the last test: no table, or the one that was found to rise
  pub found_falling : {b : Bool} → b ≡ rises_from 0 (loaded held count) → b ≡ false → own_table bytes ≡ false
  found_falling e f = rises_is e ∙ f

  module _ {b : Bool} (e : b ≡ rises_from 0 (loaded held count)) (f : b ≡ true) where
    pub found_good : own_table bytes ≡ true
    found_good = rises_is e ∙ f

    pub found_table : Table held count
    found_table = rises_table held count gathered_length k.few (sym e ∙ f)

-- a table that was found is the block's own
pub owns : (bytes : List ℕ) {t : SpeedTable} → OwnTable bytes t → Owns bytes t.speeds t.levels
owns bytes {t} o =
    let speeds : List ℕ = (decode bytes).speeds in
    record {
      size = eqb-true (length bytes) state_length (both_left (eqb (length bytes) state_length) (table_good speeds) o.good);
      good = both_right (eqb (length bytes) state_length) (table_good speeds) o.good;
      is = loaded_own bytes o.speeds o.levels t.known.few;
      table = t.known;
    }

-- a block without one is not sound
pub unowned : (bytes : List ℕ) → own_table bytes ≡ false → sound bytes ≡ false
unowned bytes none =
    elim (tested (sound bytes)) as (λ b _. sound bytes ≡ b → b ≡ false)
    [ passed ↦ λ h. absurd (true≢false (sym (owned h) ∙ none)) | failed ↦ λ h. refl ] refl
  where
    speeds : List ℕ
    speeds = (decode bytes).speeds

    -- a sound block has a state's length, and a table that may be loaded
    owned : sound bytes ≡ true → own_table bytes ≡ true
    owned h =
        let rest : Bool = both (in_time (decode bytes).clock) (state_sound speeds (decode bytes)) in
        both_true
        (eq-eqb (length bytes) state_length
        (laid_length bytes (both_left (laid_out bytes) rest (both_right (table_good speeds) (sound_at speeds bytes) h))))
        (both_left (table_good speeds) (sound_at speeds bytes) h)

-- a table that the code is handed fits a block
pub table_stored : {held : List ℕ} {levels : ℕ} → Table held levels → StorableTable (loaded held levels)
table_stored {held} {levels} t =
    record {
      few = omega (arith, levels_are t, t.few);
      each = λ k h. let l : k < levels = omega (arith, levels_are t) in omega (arith, speed_is t k l, t.most k l);
    }

-- a table that a block owns may be loaded
pub owned_fine : {bytes held : List ℕ} {levels : ℕ} → Owns bytes held levels → FineTable (loaded held levels)
owned_fine {bytes} {held} {levels} k = fine_table (loaded held levels) (ap table_good k.is ∙ k.good)

-- and it fits its block
pub owned_stored : {bytes held : List ℕ} {levels : ℕ} → Owns bytes held levels → StorableTable (decode bytes).speeds
owned_stored {bytes} k = fine_stored (fine_table (decode bytes).speeds k.good)

-- a table on its way into a block: the count and the first k speeds are stored
pub record StoredTo (held : List ℕ) (levels : ℕ) (found image : List ℕ) (k : ℕ) : Type 0 where
  pub size : length image ≡ state_length
  pub below : k ≤ level_places
  pub bytes : image ≡ sets found tail_at (fields_bytes (take (suc k) tail_fields) (table_only (loaded held levels)))

module _ (held : List ℕ) (levels : ℕ) (full : held ≡ padded 8 0 (loaded held levels)) where
  abbrev s : State
  s = table_only (loaded held levels)

  pub full_length : levels ≤ 8 → length held ≡ 8
  full_length few = ap length full ∙ length-padded 8 0 (loaded held levels) (omega (arith, length-take levels held))

  pub stored_count :
      {found image : List ℕ} → levels ≤ length held → length found ≡ state_length → image ≡ sets found tail_at (digits 256 1 levels) → StoredTo held levels found image 0
  stored_count {found} {image} few size e =
      let n : length (loaded held levels) ≡ levels = length-take-le levels held few in
      record {
        size = ap length e ∙ length-sets found tail_at (digits 256 1 levels) ∙ size;
        below = omega arith;
        bytes = e ∙ ap (λ (m : ℕ). sets found tail_at (digits 256 1 m)) (sym n);
      }

  pub stored_speed :
      {found image m : List ℕ} {k : ℕ} →
      StoredTo held levels found image k →
      k < level_places →
      m ≡ sets image (tail_at + 1 + 2 * k) (digits 256 2 (get_or held k 0)) →
      StoredTo held levels found m (k + 1)
  stored_speed {found} {image} {m} {k} so_far h e =
      let at : tail_at + 1 + 2 * k ≡ tail_at + offset_of tail_fields (speed_field k) = omega (arith, speed_offset k h) in
      let row : field_at tail_fields (speed_field k) ≡ speed_row k = speed_row_lem k h in
      let value : get_or held k 0 ≡ get_or (loaded held levels) k 0 = ap (λ (l : List ℕ). get_or l k 0) full ∙ padded_at 8 0 (loaded held levels) k in
      record {
        size = ap length e ∙ length-sets image (tail_at + 1 + 2 * k) (digits 256 2 (get_or held k 0)) ∙ so_far.size;
        below = omega arith;
        bytes =
            store_next tail_fields (speed_field k) s found tail_at so_far.bytes
            (e
            ∙ ap₂ (λ (p x : ℕ). sets image p (digits 256 2 x)) at value
            ∙ ap (λ (f : Field State). sets image (tail_at + offset_of tail_fields (speed_field k)) (digits 256 (width f) (value_in s f))) (sym row))
            ∙ ap (λ (n : ℕ). sets found tail_at (fields_bytes (take (suc n) tail_fields) s)) (sym (add-one k));
      }

  pub stored_table : {found image : List ℕ} {k : ℕ} → StoredTo held levels found image k → level_places ≤ k → image ≡ sets found tail_at (table_bytes (loaded held levels))
  stored_table {found} {image} {k} so_far h =
      let e : k ≡ level_places = omega (arith, so_far.below) in
      so_far.bytes ∙ ap (λ (n : ℕ). sets found tail_at (fields_bytes (take (suc n) tail_fields) s)) e
