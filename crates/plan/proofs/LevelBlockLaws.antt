-- What is known of a table of speeds that may be loaded, and of a level block that is accepted.
-- Assumes nothing.
use Prim.Native.Nat.{ℕ, zero, suc, ◌<◌, ◌≤◌}
use mathlib.Core.Path.{◌≡◌, refl, sym, subst}
use mathlib.Core.Bool.{true}
use mathlib.Core.List.{List, [], ◌∷◌}
use native.Mathlib.Nat.{not-suc-le-zero}
use native.Mathlib.Omega.{arith}
use borrow.Author.Tests.{leb-true}
use lib.Dec.{leb, ltb}
use lib.ListN.{length, get_or}
use Rattle.arith.specs.Choice.{both}
use Rattle.arith.specs.Asking.{first_no, within}
use Rattle.arith.proofs.Tests.{both_left, both_right, both_true}
use Rattle.arith.proofs.QuestionLaws.{within_low, within_high, reply_to, replied}
use Rattle.arith.proofs.RangeLaws.{length-list_to}
use Rattle.plan.specs.Levels.{Rising}
use Rattle.arith.specs.Need.{need}
use Rattle.plan.specs.LevelBlocks.{level_length, level_count_in, speed_at, speeds_in, rises_from, table_good, loading}

-- the first of some speeds that rise from above a given one, and the rest
module _ (low x : ℕ) (xs : List ℕ) (h : rises_from low (x ∷ xs) ≡ true) where
  rest : both (leb x 1000) (rises_from x xs) ≡ true
  rest = both_right (ltb low x) (both (leb x 1000) (rises_from x xs)) h

  above_first : low < x
  above_first = leb-true (suc low) x (both_left (ltb low x) (both (leb x 1000) (rises_from x xs)) h)

  first_most : x ≤ 1000
  first_most = leb-true x 1000 (both_left (leb x 1000) (rises_from x xs) rest)

  rest_rises : rises_from x xs ≡ true
  rest_rises = both_right (leb x 1000) (rises_from x xs) rest

-- each of them is above that one, at most 1,000, and below each that follows
rises_above : (low : ℕ) (l : List ℕ) → rises_from low l ≡ true → (k : ℕ) → k < length l → low < get_or l k 0
rises_above low [] h k l = absurd (not-suc-le-zero l)
rises_above low (x ∷ xs) h zero l = above_first low x xs h
rises_above low (x ∷ xs) h (suc k) l = omega (arith, above_first low x xs h, rises_above x xs (rest_rises low x xs h) k (omega arith))

rises_most : (low : ℕ) (l : List ℕ) → rises_from low l ≡ true → (k : ℕ) → k < length l → get_or l k 0 ≤ 1000
rises_most low [] h k l = absurd (not-suc-le-zero l)
rises_most low (x ∷ xs) h zero l = first_most low x xs h
rises_most low (x ∷ xs) h (suc k) l = rises_most x xs (rest_rises low x xs h) k (omega arith)

rises_faster :
    (low : ℕ) (l : List ℕ) →
    rises_from low l ≡ true →
    (i j : ℕ) →
    i < j →
    j < length l →
    get_or l i 0 < get_or l j 0
rises_faster low [] h i j lt l = absurd (not-suc-le-zero l)
rises_faster low (x ∷ xs) h i zero lt l = absurd (not-suc-le-zero lt)
rises_faster low (x ∷ xs) h zero (suc j) lt l = rises_above x xs (rest_rises low x xs h) j (omega arith)
rises_faster low (x ∷ xs) h (suc i) (suc j) lt l = rises_faster x xs (rest_rises low x xs h) i j (omega arith) (omega arith)

pub rising : (speeds : List ℕ) → rises_from 0 speeds ≡ true → Rising speeds
rising speeds h = record { positive = rises_above 0 speeds h; faster = rises_faster 0 speeds h }

pub speeds_most : (speeds : List ℕ) → rises_from 0 speeds ≡ true → (level : ℕ) → level < length speeds → get_or speeds level 0 ≤ 1000
speeds_most speeds h = rises_most 0 speeds h

-- a table that may be loaded
pub record FineTable (speeds : List ℕ) : Type 0 where
  pub good : table_good speeds ≡ true
  pub some : 1 ≤ length speeds
  pub few : length speeds ≤ 8
  pub most : (level : ℕ) → level < length speeds → get_or speeds level 0 ≤ 1000
  pub rising : Rising speeds

pub fine_table : (speeds : List ℕ) → table_good speeds ≡ true → FineTable speeds
fine_table speeds h =
    let count : within 1 8 (length speeds) ≡ true = both_left (within 1 8 (length speeds)) (rises_from 0 speeds) h in
    let rise : rises_from 0 speeds ≡ true = both_right (within 1 8 (length speeds)) (rises_from 0 speeds) h in
    record {
      good = h;
      some = within_low 1 8 (length speeds) count;
      few = within_high 1 8 (length speeds) count;
      most = speeds_most speeds rise;
      rising = rising speeds rise;
    }

-- 2 bytes for one level, 11 for eight
pub level_length_one : level_length 1 ≡ 2
unfolding need
level_length_one = refl

pub level_length_eight : level_length 8 ≡ 11
unfolding need
level_length_eight = refl

-- a level of such a table fits four bits, and so a byte
pub few_levels : {speeds : List ℕ} → FineTable speeds → length speeds ≤ 16
few_levels t = omega (arith, t.few)

-- an accepted level block has such a table
pub length-speeds_in : (block : List ℕ) → length (speeds_in block) ≡ level_count_in block
length-speeds_in block = length-list_to (level_count_in block) (speed_at block)

pub loaded_table : (block : List ℕ) → first_no (loading block) ≡ 0 → FineTable (speeds_in block)
loaded_table block h =
    let told : (n : ℕ) → reply_to n (loading block) ≡ true = replied (loading block) refl h in
    let count : within 1 8 (level_count_in block) ≡ true = both_right (leb 1 (length block)) (within 1 8 (level_count_in block)) (told 18) in
    fine_table (speeds_in block)
    (both_true (subst (λ (n : ℕ). within 1 8 n ≡ true) (sym (length-speeds_in block)) count) (told 20))
