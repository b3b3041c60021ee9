-- 02, No. 1, "Levels measured on our own boards": the level block, bit by bit, the questions put to it, and what reading it answers.
-- Assumes nothing.
use Rattle.std.specs.Prelude.{ℕ, zero, suc, ◌+◌, ◌*◌, Bool, true, List, [], ◌∷◌, ◌++◌, leb, ltb, eqb, length, drop, replicate}
use Rattle.arith.specs.Choice.{both, every}
use Rattle.arith.specs.Need.{need}
use Rattle.arith.specs.Digits.{number, digits}
use Rattle.arith.specs.Bits.{fields_bits, unpacked, packed}
use Rattle.arith.specs.Arrays.{padded}
use Rattle.arith.specs.Ranges.{list_to}
use Rattle.arith.specs.Asking.{Question, ask, first_no, within}
use Rattle.plan.specs.declared.Board.{Board}
use Rattle.std.specs.declared.result.Result.TheVariants.{Ok}
use Rattle.plan.specs.Counted.{refused}

-- the block of a table of speeds: 02: "4 bits of count (1 to 8), then 10 bits for each speed, [..] then zero bits to a whole byte"
abbrev pub level_bits : List ℕ → List ℕ
level_bits speeds = digits 2 4 (length speeds) ++ fields_bits (replicate (length speeds) 10) speeds

abbrev pub level_block : List ℕ → List ℕ
level_block speeds = packed (level_bits speeds)

-- how many bits so many levels take, and how many bytes: 2 for one level, 11 for eight
abbrev pub level_bit_count : ℕ → ℕ
level_bit_count count = 4 + 10 * count

abbrev pub level_length : ℕ → ℕ
level_length count = need 8 (level_bit_count count)

-- the same fields read off a block: the count, and the speeds
abbrev pub level_count_in : List ℕ → ℕ
level_count_in block = number 2 4 (unpacked block)

abbrev pub speed_at : List ℕ → ℕ → ℕ
speed_at block k = number 2 10 (drop (level_bit_count k) (unpacked block))

abbrev pub speeds_in : List ℕ → List ℕ
speeds_in block = list_to (level_count_in block) (speed_at block)

abbrev pub level_closing_bits : List ℕ → List ℕ
level_closing_bits block = drop (level_bit_count (level_count_in block)) (unpacked block)

-- 02: "1 to 1,000 and strictly rising": each speed is at most 1,000 and above the one before it, the first above a given number
abbrev pub rises_from : ℕ → List ℕ → Bool
rises_from last [] = true
rises_from last (s ∷ ss) = both (ltb last s) (both (leb s 1000) (rises_from s ss))

-- a table that may be loaded: 1 to 8 speeds, in their range and rising
abbrev pub table_good : List ℕ → Bool
table_good speeds = both (within 1 8 (length speeds)) (rises_from 0 speeds)

-- 02: "18 block empty or count outside 1 to 8; 19 length or closing bits wrong; 20 a speed out of range or not rising; put in that order"
abbrev pub loading : List ℕ → List Question
loading block =
    ask 18 (both (leb 1 (length block)) (within 1 8 (level_count_in block)))
    ∷ ask 19 (both (eqb (length block) (level_length (level_count_in block))) (every (eqb 0) (level_closing_bits block)))
    ∷ ask 20 (rises_from 0 (speeds_in block))
    ∷ []

-- a level block read: the count of its levels beside their speeds, "unused ones zero"; beside a refusal all are zero
abbrev pub board_by : ℕ → List ℕ → Board
board_by zero speeds = record { answer = Ok (length speeds); speeds = padded 8 0 speeds }
board_by (suc n) speeds = record { answer = refused (suc n); speeds = padded 8 0 [] }

abbrev pub read_levels : List ℕ → Board
read_levels block = board_by (first_no (loading block)) (speeds_in block)
