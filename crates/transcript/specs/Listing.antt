-- 01, "The bench program": the listing of an input, every byte of it.
-- Assumes nothing.
use Rattle.std.specs.Prelude.{ℕ, ◌+◌, ◌*◌, ◌%◌, min, List, [], ◌∷◌, ◌++◌, leb, eqb, length, take, drop, replicate}
use Rattle.arith.specs.Choice.{pick}
use Rattle.arith.specs.Asking.{within}
use Rattle.plan.specs.declared.Judged.{Judged}
use Rattle.std.specs.declared.result.Result.TheVariants.{Ok, Err}
use Rattle.plan.specs.Answers.{Verdict, read_block}
use Rattle.plan.specs.LevelBlocks.{level_count_in, level_length}
use Rattle.plan.specs.Blocks.{edition_in, count_in, block_length}
use Rattle.reclaiming.specs.Passes.{Pass}
use Rattle.reclaiming.specs.StateBlock.{state_length}
use Rattle.reclaiming.specs.Run.{Line, run_lines}
use Rattle.reclaiming.specs.declared.Order.TheVariants.{Run, Idle}
use Rattle.reclaiming.specs.Replies.{Reply}
use Rattle.transcript.specs.Text.{decimal, spaced, line_end, plan_word, run_word, idle_word, refused_word}

-- 01: "First line: count, nominal level, hyperperiod."
abbrev pub plan_line : ℕ → ℕ → ℕ → List ℕ
plan_line count level span = plan_word ++ (spaced count ++ (spaced level ++ (spaced span ++ line_end)))

-- 01: "A refusal's line is "refused" and the number."
abbrev pub refused_line : ℕ → List ℕ
refused_line n = refused_word ++ (spaced n ++ line_end)

-- 01: "clock, then run, task, level, hold; or idle, hold"
abbrev pub reply_line : ℕ → Reply → List ℕ
reply_line clock (Ok (Run task level hold)) =
    decimal clock ++ (32 ∷ run_word ++ (spaced task ++ (spaced level ++ (spaced hold ++ line_end))))
reply_line clock (Ok (Idle hold)) = decimal clock ++ (32 ∷ idle_word ++ (spaced hold ++ line_end))
reply_line clock (Err e) = refused_line e.number

-- 02, No. 1: "In the bench input it precedes the plan, is cut by its count too": as many bytes as the count needs, or all there are if
-- fewer, or if the count is bad
abbrev pub level_cut : List ℕ → ℕ
level_cut input =
    pick (within 1 8 (level_count_in input)) (min (level_length (level_count_in input)) (length input)) (length input)

-- 02, No. 2: "The bench cuts by edition too.": one that is neither 1 nor 2 is refused whatever is cut, and is cut as 1
abbrev pub cut_edition : ℕ → ℕ
cut_edition edition = pick (within 1 2 edition) edition 1

-- 01: "The reader is given as many bytes as the count needs, or all there are if fewer, or if the count is bad."
abbrev pub plan_cut : List ℕ → ℕ
plan_cut input =
    pick (within 1 16 (count_in input))
    (min (block_length (cut_edition (edition_in input)) (count_in input)) (length input))
    (length input)

-- 01: "two bytes each (1 bit finished, 15 bits d)"
abbrev pub pass_of : ℕ → ℕ → Pass
pass_of high low = record { d = high % 128 * 256 + low; finished = leb 128 high }

-- 01: "passes, which follow the block without a gap"; an odd byte at the end is no pass
abbrev pub passes_in : List ℕ → List Pass
passes_in [] = []
passes_in (odd ∷ []) = []
passes_in (high ∷ low ∷ rest) = pass_of high low ∷ passes_in rest

-- 01: "At the end: is no odd byte left? 16."
abbrev pub odd_line : List ℕ → List ℕ
odd_line passes = pick (eqb (length passes % 2) 0) [] (refused_line 16)

-- the text of a run's lines, one after another
abbrev pub lines_text : List Line → List ℕ
lines_text [] = []
lines_text (l ∷ ls) = reply_line l.clock l.reply ++ lines_text ls

-- the lines from the start on: those of the run over a fresh state; 02, No. 5, of the list of pairs: "the bench program's is empty"
abbrev pub started_lines : List ℕ → List ℕ → List ℕ → List ℕ
started_lines levels block passes = lines_text (run_lines levels block [] (replicate state_length 0) (passes_in passes)) ++ odd_line passes

-- the lines from a plan that was read on; "If the reading is refused, the bench program prints that line and ends."
abbrev pub judged_lines : List ℕ → List ℕ → Verdict → ℕ → List ℕ → List ℕ
judged_lines levels block (Err e) count passes = refused_line e.number
judged_lines levels block (Ok a) count passes =
    plan_line count a.nominal a.hyperperiod ++ started_lines levels block passes

abbrev pub read_lines : List ℕ → List ℕ → Judged → List ℕ → List ℕ
read_lines levels block judged passes = judged_lines levels block judged.verdict judged.plan.count passes

-- 02, No. 1: a level block "ends the run if refused": reading the plan is then answered with its number
abbrev pub plan_listing : List ℕ → List ℕ → List ℕ
plan_listing levels input =
    let cut : ℕ = plan_cut input in
    read_lines levels (take cut input) (read_block levels (take cut input)) (drop cut input)

-- 01: "The bench program asks before all: is the input at most 65,536 bytes? 17."
abbrev pub listing : List ℕ → List ℕ
listing input =
    let cut : ℕ = level_cut input in
    pick (leb (length input) 65536) (plan_listing (take cut input) (drop cut input)) (refused_line 17)
