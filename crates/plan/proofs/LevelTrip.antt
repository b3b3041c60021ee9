-- A table that may be loaded has a block, which is accepted and reads as it.
-- Assumes nothing.
use Prim.Native.Nat.{ℕ, zero, suc, ◌+◌, ◌*◌, ◌<◌, ◌≤◌}
use mathlib.Core.Path.{◌≡◌, refl, sym, ap, ◌∙◌}
use mathlib.Core.Bool.{true}
use mathlib.Core.List.{List, ◌++◌}
use native.Mathlib.Nat.{not-suc-le-zero}
use native.Mathlib.Omega.{arith}
use borrow.Author.Tests.{le-leb, eq-eqb}
use lib.Dec.{eqb}
use lib.ListN.{length, get_or, drop, replicate, length-append, get_or-eq_default}
use lib.Seq.{get_or-drop, drop-append-add}
use Rattle.arith.specs.Choice.{every}
use Rattle.arith.specs.Need.{need}
use Rattle.arith.specs.Digits.{number, digits}
use Rattle.arith.specs.Bits.{fields_bits, unpacked}
use Rattle.arith.specs.Asking.{within}
use Rattle.arith.proofs.Tests.{both_right, both_true}
use Rattle.arith.proofs.ListLaws.{at_every}
use Rattle.arith.proofs.Needs.{need_covers}
use Rattle.arith.proofs.DigitLaws.{length_digits, number_digits, number-drop_same}
use Rattle.arith.proofs.BitLaws.{length-packed, unpacked-packed}
use Rattle.arith.proofs.FieldLaws.{Same, below_append, digits_below, fields_below}
use Rattle.arith.proofs.QuestionLaws.{within_true, yes_all}
use Rattle.arith.proofs.RangeLaws.{list_to_is}
use Rattle.plan.specs.LevelBlocks.{level_bits, level_block, level_bit_count, level_length, level_count_in, speed_at, speeds_in, level_closing_bits, rises_from, table_good, loading}
use Rattle.plan.specs.Laws.{TableLoads}
use Rattle.plan.proofs.LevelBlockLaws.{FineTable, fine_table}

-- so many speeds as bits, ten each
abbrev rows : ℕ → List ℕ → List ℕ
rows n speeds = fields_bits (replicate n 10) speeds

length_rows : (n : ℕ) (speeds : List ℕ) → length (rows n speeds) ≡ 10 * n
length_rows zero speeds = refl
length_rows (suc n) speeds =
    omega (
      arith,
      length-append (digits 2 10 (get_or speeds 0 0)) (rows n (drop 1 speeds)),
      length_digits 2 10 (get_or speeds 0 0),
      length_rows n (drop 1 speeds),
    )

-- each is read back where it stands
row_back : (n : ℕ) (speeds : List ℕ) (k : ℕ) → k < n → get_or speeds k 0 < 1024 → number 2 10 (drop (10 * k) (rows n speeds)) ≡ get_or speeds k 0
row_back zero speeds k h s = absurd (not-suc-le-zero h)
row_back (suc n) speeds zero h s = number_digits 2 10 (get_or speeds 0 0) (rows n (drop 1 speeds)) (omega arith) s
row_back (suc n) speeds (suc k) h s =
    let front : List ℕ = digits 2 10 (get_or speeds 0 0) in
    let e : 10 * suc k ≡ length front + 10 * k = omega (arith, length_digits 2 10 (get_or speeds 0 0)) in
    let one : 1 + k ≡ suc k = omega arith in
    let same : get_or (drop 1 speeds) k 0 ≡ get_or speeds (suc k) 0 = get_or-drop 1 speeds k 0 ∙ ap (λ (j : ℕ). get_or speeds j 0) one in
    ap (λ (l : List ℕ). number 2 10 l)
    (ap (λ (m : ℕ). drop m (front ++ rows n (drop 1 speeds))) e ∙ drop-append-add front (rows n (drop 1 speeds)) (10 * k))
    ∙ row_back n (drop 1 speeds) k (omega arith) (omega arith)
    ∙ same

module _ (speeds : List ℕ) (good : table_good speeds ≡ true) where
  fine : FineTable speeds
  fine = fine_table speeds good

  abbrev n : ℕ
  n = length speeds

  abbrev bits : List ℕ
  bits = level_bits speeds

  abbrev block : List ℕ
  block = level_block speeds

  length_bits : length bits ≡ level_bit_count n
  length_bits = omega (arith, length-append (digits 2 4 n) (rows n speeds), length_digits 2 4 n, length_rows n speeds)

  -- the block's bits are the table's
  same_bits : Same (unpacked block) bits
  same_bits =
      unpacked-packed (need 8 (length bits)) bits (omega (arith, need_covers 8 (length bits) (omega arith)))
      (below_append (digits 2 4 n) (rows n speeds) (digits_below 4 n) (fields_below (replicate n 10) speeds))

  count_back : level_count_in block ≡ n
  count_back =
      number-drop_same 2 4 0 (unpacked block) bits same_bits ∙ number_digits 2 4 n (rows n speeds) (omega arith) (omega (arith, fine.few))

  speed_back : (k : ℕ) → k < n → speed_at block k ≡ get_or speeds k 0
  speed_back k h =
      let e : level_bit_count k ≡ length (digits 2 4 n) + 10 * k = omega (arith, length_digits 2 4 n) in
      number-drop_same 2 10 (level_bit_count k) (unpacked block) bits same_bits
      ∙ ap (λ (l : List ℕ). number 2 10 l) (ap (λ (m : ℕ). drop m bits) e ∙ drop-append-add (digits 2 4 n) (rows n speeds) (10 * k))
      ∙ row_back n speeds k h (omega (arith, fine.most k h))

  speeds_back : speeds_in block ≡ speeds
  speeds_back =
      sym (list_to_is (level_count_in block) (speed_at block) speeds 0 (sym count_back) (λ k h. sym (speed_back k (omega (arith, count_back)))))

  -- its length is the count's, and past the speeds its bits are zero
  size : length block ≡ level_length (level_count_in block)
  size =
      length-packed (need 8 (length bits)) bits
      ∙ ap (λ (m : ℕ). need 8 m) length_bits
      ∙ sym (ap level_length count_back)

  closing : every (eqb 0) (level_closing_bits block) ≡ true
  closing =
      at_every (eqb 0) (level_closing_bits block) 0
      (λ k h. eq-eqb 0 (get_or (level_closing_bits block) k 0)
      (sym
      (ap (λ (m : ℕ). get_or (drop (level_bit_count m) (unpacked block)) k 0) count_back
      ∙ get_or-drop (level_bit_count n) (unpacked block) k 0
      ∙ same_bits (level_bit_count n + k)
      ∙ get_or-eq_default bits 0 {n = level_bit_count n + k} (omega (arith, length_bits)))))

  some : 1 ≤ length block
  some = omega (arith, size, need_covers 8 (level_bit_count (level_count_in block)) (omega arith))

pub table_loads : TableLoads
table_loads speeds good =
    let f : FineTable speeds = fine_table speeds good in
    let b : List ℕ = level_block speeds in
    let count : level_count_in b ≡ length speeds = count_back speeds good in (
      yes_all (loading b) (
        both_true (le-leb 1 (length b) (some speeds good)) (within_true 1 8 (level_count_in b) (omega (arith, f.some)) (omega (arith, f.few))),
        (
          both_true (eq-eqb (length b) (level_length (level_count_in b)) (size speeds good)) (closing speeds good),
          (
            ap (λ (l : List ℕ). rises_from 0 l) (speeds_back speeds good) ∙ both_right (within 1 8 (length speeds)) (rises_from 0 speeds) good,
            tt,
          ),
        ),
      ),
      speeds_back speeds good,
    )
