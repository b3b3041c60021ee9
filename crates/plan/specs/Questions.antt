-- 01, "Questions put to every call": those put to a plan, in their order, with their numbers.
-- Assumes nothing.
use Rattle.std.specs.Prelude.{ℕ, Bool, not, List, [], ◌∷◌, ◌++◌, leb, ltb, eqb, length}
use Rattle.arith.specs.Choice.{both, every}
use Rattle.arith.specs.Asking.{Question, ask, within}
use Rattle.plan.specs.declared.Task.{Task}
use Rattle.plan.specs.declared.Plan.{Plan}
use Rattle.plan.specs.Levels.{hyperperiod, nominal}
use Rattle.plan.specs.Blocks.{adds_nothing, edition_in, count_in, tasks_in, tasks_of, plan_block, block_length, closing_bits}

-- 01: "A task has a period (1 to 65,535 ticks) and a worst case (1 to 1,048,575 units of work)."; 02, No. 2: "fixed ticks (0 to 255)"
abbrev pub in_range : Task → Bool
in_range t = both (within 1 65535 t.period) (both (within 1 1048575 t.worst) (leb t.fixed 255))

-- "Is the count 1 to 16? 3"
abbrev pub count_question : ℕ → Question
count_question count = ask 3 (within 1 16 count)

-- "Is each period and worst case in its range? 6"
abbrev pub range_question : List Task → Question
range_question ts = ask 6 (every in_range ts)

-- "Is the hyperperiod at most 1,000,000? 7"
abbrev pub span_question : List Task → Question
span_question ts = ask 7 (leb (hyperperiod ts) 1000000)

-- "Does some level admit the plan? 8"
abbrev pub level_question : List ℕ → List Task → Question
level_question speeds ts = ask 8 (ltb (nominal speeds ts) (length speeds))

-- "21 an edition 2 block whose additions are all zero; put after 6 in reading"
abbrev pub addition_question : ℕ → List Task → Question
addition_question edition ts = ask 21 (not (both (eqb edition 2) (every adds_nothing ts)))

-- 02, No. 8: "24 a floor naming no loaded level; put after 6 and 21": of so many levels, from 0 on
abbrev pub floor_loaded : ℕ → Task → Bool
floor_loaded levels t = ltb t.floor levels

abbrev pub floor_question : List ℕ → List Task → Question
floor_question speeds ts = ask 24 (every (floor_loaded (length speeds)) ts)

-- those put to the tasks of a plan
abbrev pub task_questions : List ℕ → List Task → List Question
task_questions speeds ts = range_question ts ∷ floor_question speeds ts ∷ span_question ts ∷ level_question speeds ts ∷ []

-- 01: "Writing a plan, and judging a list, put 3, 6, 7, 8."; 24 after 6
abbrev pub judging : List ℕ → ℕ → List Task → List Question
judging speeds count ts = count_question count ∷ task_questions speeds ts

-- 01: "Reading a plan"; 02, No. 2: "question 2 accepts 1 or 2"; No. 8: "Question 5 no longer tests" the spare bits
abbrev pub reading : List ℕ → List ℕ → List Question
reading speeds block =
    ask 1 (leb 2 (length block))
    ∷ ask 2 (within 1 2 (edition_in block))
    ∷ count_question (count_in block)
    ∷ ask 4 (eqb (length block) (block_length (edition_in block) (count_in block)))
    ∷ ask 5 (every (eqb 0) (closing_bits block))
    ∷ range_question (tasks_in block)
    ∷ addition_question (edition_in block) (tasks_in block)
    ∷ floor_question speeds (tasks_in block)
    ∷ span_question (tasks_in block)
    ∷ level_question speeds (tasks_in block)
    ∷ []

-- 01: "is the lent buffer long enough? 9"
abbrev pub room_question : ℕ → ℕ → Question
room_question wanted room = ask 9 (leb wanted room)

-- 01: "Writing a plan then asks: [..] 9"
abbrev pub writing : List ℕ → Plan → ℕ → List Question
writing speeds p room = judging speeds p.count (tasks_of p) ++ (room_question (length (plan_block (tasks_of p))) room ∷ [])
