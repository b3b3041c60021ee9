-- How many bytes of the input the level block and the plan block are given.
-- Assumes nothing.
use Prim.Native.Nat.{ℕ, ◌≤◌, ◌<◌, min}
use mathlib.Core.Bool.{Bool, true, false}
use mathlib.Core.Path.{◌≡◌, refl, sym, ap, ap₂, ◌∙◌}
use mathlib.Core.List.{List}
use native.Mathlib.Omega.{arith}
use lib.ListN.{length}
use Rattle.arith.specs.Choice.{pick}
use Rattle.plan.specs.LevelBlocks.{level_count_in, level_length}
use Rattle.plan.specs.Blocks.{edition_in, count_in, block_length}
use Rattle.arith.specs.Asking.{within}
use Rattle.arith.proofs.QuestionLaws.{within_low, within_high, within_true, within_under, within_over}
use Rattle.plan.proofs.BlockBits.{block_length_least}
use Rattle.transcript.specs.Listing.{level_cut, cut_edition, plan_cut}

-- of the largest count, the length that a count wants, the count and how many bytes there are
abbrev cut_at : ℕ → ℕ → ℕ → ℕ → ℕ
cut_at most wanted k n = pick (within 1 most k) (min wanted n) n

pick_less : (b : Bool) (m n : ℕ) → (b ≡ true → n ≤ m) → n ≡ pick b (min m n) n
pick_less true m n h = let le : n ≤ m = h refl in omega arith
pick_less false m n h = refl

module _ (most wanted k n : ℕ) where
  short_at : (1 ≤ k → n ≤ wanted) → n ≡ cut_at most wanted k n
  short_at h = pick_less (within 1 most k) wanted n (λ b. h (within_low 1 most k b))

  low_at : k < 1 → n ≡ cut_at most wanted k n
  low_at h = sym (ap (λ (b : Bool). pick b (min wanted n) n) (within_under 1 most k h))

  high_at : most < k → n ≡ cut_at most wanted k n
  high_at h = sym (ap (λ (b : Bool). pick b (min wanted n) n) (within_over 1 most k h))

  good_at : 1 ≤ k → k ≤ most → min wanted n ≡ cut_at most wanted k n
  good_at a b = sym (ap (λ (t : Bool). pick t (min wanted n) n) (within_true 1 most k a b))

-- the edition that is cut by
pub edition_two : (edition : ℕ) → edition ≡ 2 → 2 ≡ cut_edition edition
edition_two edition h = sym (ap cut_edition h)

pub edition_else : (edition : ℕ) → (edition ≡ 2 → ⊥) → 1 ≡ cut_edition edition
edition_else edition h =
    only (within 1 2 edition) (λ b. omega (arith, h, within_low 1 2 edition b, within_high 1 2 edition b))
  where
    only : (b : Bool) → (b ≡ true → edition ≡ 1) → 1 ≡ pick b edition 1
    only true e = sym (e refl)
    only false e = refl

-- what the cut is, and that it lies within the input
abbrev Cut : List ℕ → ℕ → Type 0
Cut input r = (r ≡ plan_cut input) × (r ≤ length input)

pub cut_short : (input : List ℕ) → length input < 2 → Cut input (length input)
cut_short input h =
    let e : ℕ = cut_edition (edition_in input) in
    let k : ℕ = count_in input in
    (short_at 16 (block_length e k) k (length input) (λ l. omega (arith, block_length_least e k l)), omega arith)

-- the edition and the count as they are read
pub record Header (input : List ℕ) (edition count : ℕ) : Type 0 where
  pub is_edition : edition ≡ cut_edition (edition_in input)
  pub is_count : count ≡ count_in input

pub header : (input : List ℕ) {x edition count : ℕ} → x ≡ edition_in input → edition ≡ cut_edition x → count ≡ count_in input → Header input edition count
header input a b c = record { is_edition = b ∙ ap cut_edition a; is_count = c }

module _ {input : List ℕ} {edition count : ℕ} (h : Header input edition count) where
  abbrev long : ℕ
  long = block_length edition count

  headed : (r : ℕ) → r ≡ cut_at 16 long count (length input) → r ≡ plan_cut input
  headed r e = e ∙ ap₂ (λ (x k : ℕ). cut_at 16 (block_length x k) k (length input)) h.is_edition h.is_count

  pub cut_low : count < 1 → Cut input (length input)
  cut_low l = (headed (length input) (low_at 16 long count (length input) l), omega arith)

  pub cut_high : 16 < count → Cut input (length input)
  cut_high l = (headed (length input) (high_at 16 long count (length input) l), omega arith)

-- a good count, and the length of its block
pub record Wanted (input : List ℕ) (edition count wanted : ℕ) : Type 0 where
  pub names : Header input edition count
  pub low : 1 ≤ count
  pub high : count ≤ 16
  pub size : wanted ≡ block_length edition count

module _ {input : List ℕ} {edition count wanted : ℕ} (w : Wanted input edition count wanted) where
  cut_min : (r : ℕ) → r ≡ min wanted (length input) → r ≡ plan_cut input
  cut_min r m =
      headed w.names r
      (m ∙ ap (λ (x : ℕ). min x (length input)) w.size ∙ good_at 16 (block_length edition count) count (length input) w.low w.high)

  pub cut_part : wanted < length input → Cut input wanted
  cut_part h = (cut_min wanted (omega arith), omega arith)

  pub cut_whole : length input ≤ wanted → Cut input (length input)
  cut_whole h = (cut_min (length input) (omega arith), omega arith)

-- the same of a level block
abbrev LevelCut : List ℕ → ℕ → Type 0
LevelCut input r = (r ≡ level_cut input) × (r ≤ length input)

pub levels_none : (input : List ℕ) → length input < 1 → LevelCut input (length input)
levels_none input h =
    (short_at 8 (level_length (level_count_in input)) (level_count_in input) (length input) (λ l. omega arith), omega arith)

module _ (input : List ℕ) {count : ℕ} (read : count ≡ level_count_in input) where
  counted : (r : ℕ) → r ≡ cut_at 8 (level_length count) count (length input) → r ≡ level_cut input
  counted r e = e ∙ ap (λ (k : ℕ). cut_at 8 (level_length k) k (length input)) read

  pub levels_low : count < 1 → LevelCut input (length input)
  levels_low l = (counted (length input) (low_at 8 (level_length count) count (length input) l), omega arith)

  pub levels_high : 8 < count → LevelCut input (length input)
  levels_high l = (counted (length input) (high_at 8 (level_length count) count (length input) l), omega arith)

  module _ (low : 1 ≤ count) (high : count ≤ 8) {wanted : ℕ} (size : wanted ≡ level_length count) where
    levels_min : (r : ℕ) → r ≡ min wanted (length input) → r ≡ level_cut input
    levels_min r m =
        counted r
        (m ∙ ap (λ (x : ℕ). min x (length input)) size ∙ good_at 8 (level_length count) count (length input) low high)

    pub levels_part : wanted < length input → LevelCut input wanted
    levels_part h = (levels_min wanted (omega arith), omega arith)

    pub levels_whole : length input ≤ wanted → LevelCut input (length input)
    levels_whole h = (levels_min (length input) (omega arith), omega arith)
