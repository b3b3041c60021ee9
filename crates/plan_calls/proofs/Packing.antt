-- The calls on plans as C sees them: answers that fit one number.
-- Assumes nothing.
use Prim.Native.Nat.{ℕ, zero, suc, ◌^◌, ◌<◌, ◌≤◌}
use mathlib.Core.Path.{◌≡◌, refl, sym, subst}
use mathlib.Core.List.{List, [], ◌∷◌, ◌++◌}
use native.Mathlib.Omega.{arith}
use lib.ListN.{length, length-take}
use Rattle.plan.specs.declared.Plan.{Plan}
use Rattle.plan.specs.declared.Judged.{Judged}
use Rattle.plan.specs.declared.Board.{Board}
use Rattle.plan.specs.LevelBlocks.{speeds_in, loading, board_by, read_levels}
use Rattle.plan.specs.Blocks.{tasks_of, tasks_in, edition_in, count_in, edition_of, plan_block}
use Rattle.plan.specs.Questions.{judging, reading, writing, room_question}
use Rattle.arith.specs.Asking.{Question, first_no}
use Rattle.plan.specs.Answers.{read_block, write_number, written_by, write_plan, copy_number}
use Rattle.plan.specs.Pairs.{pairs_in, pairs_question, pair_number, ask_pairs}
use Rattle.plan.specs.Numbers.{verdict_number}
use Rattle.plan.proofs.LevelBlockLaws.{loaded_table}
use Rattle.plan.proofs.NumberLaws.{counted_most}
use Rattle.plan.proofs.Facts.{FineList, FineBlock, fine_list, fine_block}
use Rattle.plan.proofs.PairLaws.{pairs_few}
use Rattle.plan.proofs.BlockBits.{length-plan_block, block_length_most}
use Rattle.plan_calls.proofs.judged.Verdicts.{entered_most}
use Rattle.arith.proofs.QuestionLaws.{first_no_most, yes_of, yes_after, all_yes}
use Rattle.plan.specs.Counted.{Counted, counted_number}

-- what reading a level block answers fits: a refusal's number is small, and so is a count of levels
board_most : (n : ℕ) (speeds : List ℕ) → n ≤ 255 → (n ≡ 0 → length speeds ≤ 8) → counted_number (board_by n speeds).answer < 2 ^ 36
board_most zero speeds h f = omega (arith, f refl)
board_most (suc n) speeds h f = omega arith

pub load_most : (levels : List ℕ) {b : Board} → b ≡ read_levels levels → counted_number b.answer < 2 ^ 36
load_most levels e =
    subst (λ (x : Board). counted_number x.answer < 2 ^ 36) (sym e)
    (board_most (first_no (loading levels)) (speeds_in levels) (first_no_most 255 (loading levels) refl) (λ z. (loaded_table levels z).few))

-- and so does a verdict on a block that is read
module _ (levels : List ℕ) where
  pub read_most : (block : List ℕ) {j : Judged} → j ≡ read_block levels block → verdict_number j.verdict < 2 ^ 36
  read_most block =
      let asked : List Question = reading (speeds_in levels) block in
      entered_most levels asked (tasks_in block) (first_no_most 255 (loading levels ++ asked) refl)
      (λ z. (fine_block (speeds_in levels) block z).tasks)

  -- and what is answered about pairs, of which a good list has at most 16
  pub pairs_most : (block pairs : List ℕ) {p : Counted} → p ≡ ask_pairs levels block pairs → counted_number p < 2 ^ 36
  pairs_most block pairs e =
      subst (λ (x : Counted). counted_number x < 2 ^ 36) (sym e)
      (counted_most (pair_number levels block pairs) (length (pairs_in pairs)) (first_no_most 255 (loading levels ++ (asked ++ last)) refl) few)
    where
      asked : List Question
      asked = reading (speeds_in levels) block

      last : List Question
      last = pairs_question (tasks_in block) pairs ∷ []

      few : pair_number levels block pairs ≡ 0 → length (pairs_in pairs) ≤ 255
      few z =
          let good = (all_yes last refl (yes_after asked last refl (yes_after (loading levels) (asked ++ last) refl z))).0 in
          omega (arith, pairs_few (tasks_in block) pairs good)

  -- and what writing answers
  pub wrote_most : (p : Plan) (room : ℕ) {w : Counted} → w ≡ write_plan levels p room → counted_number w < 2 ^ 36
  wrote_most p room e =
      subst (λ (x : Counted). counted_number x < 2 ^ 36) (sym e)
      (counted_most (write_number levels p room) (length (plan_block (tasks_of p))) (first_no_most 255 (loading levels ++ writing (speeds_in levels) p room) refl) long)
    where
      asked : List Question
      asked = judging (speeds_in levels) p.count (tasks_of p)

      rest : List Question
      rest = room_question (length (plan_block (tasks_of p))) room ∷ []

      long : write_number levels p room ≡ 0 → length (plan_block (tasks_of p)) ≤ 255
      long z =
          let f : FineList (speeds_in levels) p.count (tasks_of p) =
          fine_list (speeds_in levels) p.count (tasks_of p) (yes_of asked rest (yes_after (loading levels) (asked ++ rest) refl z)) in
          let n : length (tasks_of p) ≤ 16 = omega (arith, length-take p.count p.tasks, f.count_high) in
          omega (arith, length-plan_block (tasks_of p), block_length_most (edition_of (tasks_of p)) (length (tasks_of p)) n)

  pub copy_most :
      (block : List ℕ) (room : ℕ) {w : Counted} →
      w ≡ written_by (copy_number levels block room) block →
      counted_number w < 2 ^ 36
  copy_most block room e =
      subst (λ (x : Counted). counted_number x < 2 ^ 36) (sym e)
      (counted_most (copy_number levels block room) (length block) (first_no_most 255 (loading levels ++ (asked ++ rest)) refl) long)
    where
      asked : List Question
      asked = reading (speeds_in levels) block

      rest : List Question
      rest = room_question (length block) room ∷ []

      long : copy_number levels block room ≡ 0 → length block ≤ 255
      long z =
          let f : FineBlock (speeds_in levels) block =
          fine_block (speeds_in levels) block (yes_of asked rest (yes_after (loading levels) (asked ++ rest) refl z)) in
          omega (arith, f.size, block_length_most (edition_in block) (count_in block) f.count_high)
