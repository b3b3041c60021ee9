-- Reading a level block: what each way out of the code says of the block.
-- Assumes nothing.
use Prim.Native.Nat.{ℕ, suc, ◌-◌, ◌*◌, ◌<◌, ◌≤◌}
use mathlib.Core.Path.{◌≡◌, refl, sym, ap, ap₂, ◌∙◌}
use mathlib.Core.Bool.{Bool, true, false}
use mathlib.Core.List.{List}
use native.Mathlib.Omega.{arith}
use borrow.Author.Tests.{le-leb, lt-leb, eq-eqb, ne_eqb}
use lib.Dec.{leb, eqb}
use lib.ListN.{length, drop}
use Rattle.arith.specs.Choice.{both, every}
use Rattle.arith.specs.Digits.{number}
use Rattle.arith.specs.Bits.{unpacked}
use Rattle.arith.specs.Arrays.{padded}
use Rattle.arith.specs.Ranges.{list_to}
use Rattle.arith.specs.Asking.{first_no, within}
use Rattle.arith.proofs.Tests.{both_true, both_false}
use Rattle.arith.proofs.BitLaws.{rest_zero}
use Rattle.arith.proofs.QuestionLaws.{ask_no, ask_yes, within_true, within_under, within_over}
use Rattle.plan.specs.declared.Board.{Board}
use Rattle.plan.specs.LevelBlocks.{level_bit_count, level_length, level_count_in, level_closing_bits, speed_at, speeds_in, rises_from, loading, board_by, read_levels}
use Rattle.plan.proofs.LevelBlockLaws.{length-speeds_in}
use Rattle.levels.specs.Code.{loaded}
use Rattle.levels.proofs.LevelLaws.{loaded_padded}
use Rattle.levels.specs.Reading.{unloaded_with}
use Rattle.std.specs.declared.result.Result.TheVariants.{Ok}

-- each way out of reading a level block, by the first no of its questions
module _ (block : List ℕ) {r : Board} where
  unloaded_at : (n : ℕ) → r ≡ unloaded_with (suc n) → first_no (loading block) ≡ suc n → r ≡ read_levels block
  unloaded_at n a e = a ∙ sym (ap (λ (k : ℕ). board_by k (speeds_in block)) e)

  pub load_empty : r ≡ unloaded_with 18 → length block < 1 → r ≡ read_levels block
  load_empty a h =
      unloaded_at 17 a
      (ask_no 18 _ (ap (λ (b : Bool). both b (within 1 8 (level_count_in block))) (lt-leb 1 (length block) h)))

  -- the count is out of its range
  uncounted : within 1 8 (level_count_in block) ≡ false → r ≡ unloaded_with 18 → r ≡ read_levels block
  uncounted h a =
      unloaded_at 17 a (ask_no 18 _ (ap (λ (b : Bool). both (leb 1 (length block)) b) h ∙ both_false (leb 1 (length block))))

  pub load_low : {count : ℕ} → r ≡ unloaded_with 18 → count ≡ level_count_in block → count < 1 → r ≡ read_levels block
  load_low a e h = uncounted (within_under 1 8 (level_count_in block) (omega arith)) a

  pub load_high : {count : ℕ} → r ≡ unloaded_with 18 → count ≡ level_count_in block → 8 < count → r ≡ read_levels block
  load_high a e h = uncounted (within_over 1 8 (level_count_in block) (omega arith)) a

-- 18 is answered yes
pub record Counted (block : List ℕ) (count : ℕ) : Type 0 where
  pub long : 1 ≤ length block
  pub counted : count ≡ level_count_in block
  pub low : 1 ≤ count
  pub high : count ≤ 8

module _ {block : List ℕ} {count : ℕ} (c : Counted block count) where
  eighteen : both (leb 1 (length block)) (within 1 8 (level_count_in block)) ≡ true
  eighteen =
      both_true (le-leb 1 (length block) c.long)
      (within_true 1 8 (level_count_in block) (omega (arith, c.counted, c.low)) (omega (arith, c.counted, c.high)))

  -- 19 is answered no
  ill_sized :
      {r : Board} →
      both (eqb (length block) (level_length (level_count_in block))) (every (eqb 0) (level_closing_bits block)) ≡ false →
      r ≡ unloaded_with 19 →
      r ≡ read_levels block
  ill_sized h a = unloaded_at block 18 a (ask_yes 18 eighteen (ask_no 19 _ h))

  pub load_size : {r : Board} {n : ℕ} → r ≡ unloaded_with 19 → n ≡ level_length count → (length block ≡ n → ⊥) → r ≡ read_levels block
  load_size a e h =
      ill_sized
      (ap (λ (b : Bool). both b (every (eqb 0) (level_closing_bits block)))
      (ne_eqb (length block) (level_length (level_count_in block)) (λ q. h (q ∙ sym (e ∙ ap level_length c.counted)))))
      a

-- its length is right too, and x is the number of the closing bits
pub record Closing (block : List ℕ) (count x : ℕ) : Type 0 where
  pub counts : Counted block count
  pub size : length block ≡ level_length count
  pub closing : x ≡ number 2 (8 * length block - level_bit_count count) (drop (level_bit_count count) (unpacked block))

module _ {block : List ℕ} {count x : ℕ} (c : Closing block count x) where
  closed : every (eqb 0) (level_closing_bits block) ≡ eqb x 0
  closed =
      let bits : ℕ → ℕ = λ k. number 2 (8 * length block - level_bit_count k) (drop (level_bit_count k) (unpacked block)) in
      rest_zero block (level_bit_count (level_count_in block)) ∙ sym (ap (λ (m : ℕ). eqb m 0) (c.closing ∙ ap bits c.counts.counted))

  pub load_closing : {r : Board} → r ≡ unloaded_with 19 → (x ≡ 0 → ⊥) → r ≡ read_levels block
  load_closing a h =
      let sized : Bool = eqb (length block) (level_length (level_count_in block)) in
      ill_sized c.counts (ap (λ (b : Bool). both sized b) (closed ∙ ne_eqb x 0 h) ∙ both_false sized) a

  -- 19 is answered yes too, and the speeds are read
  module _ (zero : x ≡ 0) {held : List ℕ} (read : held ≡ padded 8 0 (list_to count (speed_at block))) where
    nineteen : both (eqb (length block) (level_length (level_count_in block))) (every (eqb 0) (level_closing_bits block)) ≡ true
    nineteen =
        both_true (eq-eqb (length block) (level_length (level_count_in block)) (c.size ∙ ap level_length c.counts.counted))
        (closed ∙ eq-eqb x 0 zero)

    held_is : held ≡ padded 8 0 (speeds_in block)
    held_is = read ∙ ap (λ (n : ℕ). padded 8 0 (list_to n (speed_at block))) c.counts.counted

    count_is : count ≡ length (speeds_in block)
    count_is = c.counts.counted ∙ sym (length-speeds_in block)

    twenty : {b : Bool} → b ≡ rises_from 0 (loaded held count) → rises_from 0 (speeds_in block) ≡ b
    twenty e =
        sym
        (e
        ∙ ap₂ (λ (l : List ℕ) (n : ℕ). rises_from 0 (loaded l n)) held_is count_is
        ∙ ap (λ (l : List ℕ). rises_from 0 l) (loaded_padded (speeds_in block)))

    pub load_falls : {r : Board} {b : Bool} → r ≡ unloaded_with 20 → b ≡ rises_from 0 (loaded held count) → b ≡ false → r ≡ read_levels block
    load_falls a e h =
        unloaded_at block 19 a (ask_yes 18 (eighteen c.counts) (ask_yes 19 nineteen (ask_no 20 _ (twenty e ∙ h))))

    pub load_rises :
        {b : Bool} →
        b ≡ rises_from 0 (loaded held count) →
        b ≡ true →
        ◌≡◌ {A = Board} (record { answer = Ok count; speeds = held }) (read_levels block)
    load_rises e h =
        let none : first_no (loading block) ≡ 0 =
        ask_yes 18 (eighteen c.counts) (ask_yes 19 nineteen (ask_yes 20 (twenty e ∙ h) refl)) in
        let made : ◌≡◌ {A = Board} (record { answer = Ok count; speeds = held }) (board_by 0 (speeds_in block)) =
        λ i. record { answer = Ok (count_is i); speeds = held_is i } in
        made ∙ sym (ap (λ (k : ℕ). board_by k (speeds_in block)) none)
