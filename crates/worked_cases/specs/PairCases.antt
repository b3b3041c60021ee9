-- 02, No. 5, "Angle before valve": cases of lists of pairs, asked about and started with, and what would be false of other lists.
-- Assumes nothing.
use Rattle.std.specs.Prelude.{ℕ, zero, suc, List, [], ◌∷◌, ◌++◌, map, set, replicate}
use Rattle.arith.specs.Need.{need}
use Rattle.arith.specs.Divisor.{gcd, lcm}
use Rattle.plan.specs.declared.Task.{Task}
use Rattle.plan.specs.Times.{time_of, worn}
use Rattle.plan.specs.LevelBlocks.{level_block, speeds_in}
use Rattle.plan.specs.Blocks.{plan_block, tasks_in}
use Rattle.plan.specs.Pairs.{Pair, pairs_in, ask_pairs}
use Rattle.schedule.specs.PlainSchedule.{more_urgent}
use Rattle.reclaiming.specs.Allotments.{timing}
use Rattle.reclaiming.specs.Replies.{reply_answer}
use Rattle.reclaiming.specs.Passes.{Pass}
use Rattle.reclaiming.specs.StateBlock.{state_length}
use Rattle.reclaiming.specs.Calls.{start_reply, start_buffer}
use Rattle.reclaiming.specs.Promises.{Started, EarlierClosed, actual_book}
use Rattle.worked_cases.specs.Cases.{Case, task, case, told, base_levels}
use Rattle.worked_cases.specs.FixedCases.{in_edition2}
use Rattle.plan.specs.Counted.{counted_answer}

-- a gait, an angle, a valve that reads it, and a radio
abbrev knee_tasks : List Task
knee_tasks = task 30 100 ∷ task 10 100 ∷ task 10 100 ∷ task 20 100 ∷ []

abbrev pub knee_plan : List ℕ
knee_plan = plan_block knee_tasks

-- so many times the pair of angle and valve
abbrev angle_before_valve : ℕ → List ℕ
angle_before_valve zero = []
angle_before_valve (suc n) = 1 ∷ 2 ∷ angle_before_valve n

-- what asking about a list, and starting with it, give
abbrev pair_values : List ℕ → List ℕ
pair_values pairs = told (counted_answer (ask_pairs base_levels knee_plan pairs))

abbrev starts_with : List ℕ → List ℕ → List ℕ → ℕ → List ℕ
starts_with levels block pairs room = told (reply_answer (start_reply levels block pairs room))

-- a list that is not good, and what is answered before it is looked at
abbrev bad_list : List ℕ
bad_list = 2 ∷ 1 ∷ []

abbrev over_levels : List ℕ → List ℕ
over_levels levels = starts_with levels knee_plan bad_list 0

abbrev of_block : List ℕ → List ℕ
of_block block = starts_with base_levels block bad_list 0

abbrev of_tasks : List Task → List ℕ
of_tasks ts = of_block (plan_block ts)

-- the table of lists; the line that begins with `unfolding`, here and below, only lets it be computed
abbrev pub lists : List Case
unfolding need time_of worn lcm gcd more_urgent
lists =
    -- "A list of up to 16 pairs": none, 1, 16, and 17
    case (pair_values []) (0 ∷ 0 ∷ [])
    ∷ case (pair_values (angle_before_valve 1)) (0 ∷ 1 ∷ [])
    ∷ case (pair_values (angle_before_valve 16)) (0 ∷ 16 ∷ [])
    ∷ case (pair_values (angle_before_valve 17)) (22 ∷ [])
    -- "an odd byte"
    ∷ case (pair_values (1 ∷ [])) (22 ∷ [])
    ∷ case (pair_values (1 ∷ 2 ∷ 1 ∷ [])) (22 ∷ [])
    -- "where the periods are equal the earlier has the lower number": the valve before the angle, and the angle before itself
    ∷ case (pair_values (2 ∷ 1 ∷ [])) (22 ∷ [])
    ∷ case (pair_values (1 ∷ 1 ∷ [])) (22 ∷ [])
    -- "the later task's period is a multiple of the earlier's": 30 of 10, whatever the numbers, 10 of 30, 30 of 20
    ∷ case (pair_values (1 ∷ 0 ∷ [])) (0 ∷ 1 ∷ [])
    ∷ case (pair_values (0 ∷ 1 ∷ [])) (22 ∷ [])
    ∷ case (pair_values (3 ∷ 0 ∷ [])) (22 ∷ [])
    -- "both task numbers exist"
    ∷ case (pair_values (1 ∷ 3 ∷ [])) (0 ∷ 1 ∷ [])
    ∷ case (pair_values (1 ∷ 4 ∷ [])) (22 ∷ [])
    ∷ case (pair_values (4 ∷ 1 ∷ [])) (22 ∷ [])
    -- each pair is looked at, the sixteenth too
    ∷ case (pair_values (angle_before_valve 15 ++ bad_list)) (22 ∷ [])
    ∷ case (pair_values (bad_list ++ angle_before_valve 15)) (22 ∷ [])
    ∷ []

-- the table of starts: a good list changes nothing, and one that is not good changes no lent byte
abbrev pub starts : List Case
unfolding need time_of worn lcm gcd more_urgent
starts =
    case (starts_with base_levels knee_plan (angle_before_valve 16) state_length) (starts_with base_levels knee_plan [] state_length)
    ∷ case (start_buffer base_levels knee_plan (angle_before_valve 16) (replicate state_length 255)) (start_buffer base_levels knee_plan [] (replicate state_length 255))
    ∷ case (starts_with base_levels knee_plan bad_list state_length) (22 ∷ [])
    ∷ case (start_buffer base_levels knee_plan bad_list (replicate state_length 255)) (replicate state_length 255)
    -- before 9: a byte too few for the state, and as many as it has
    ∷ case (starts_with base_levels knee_plan bad_list 220) (22 ∷ [])
    ∷ case (starts_with base_levels knee_plan (angle_before_valve 1) 220) (9 ∷ [])
    ∷ case (starts_with base_levels knee_plan (angle_before_valve 1) 221) (0 ∷ 1 ∷ 3 ∷ 3 ∷ [])
    -- "put after 8", and so after all before it
    ∷ case (over_levels []) (18 ∷ [])
    ∷ case (over_levels (16 ∷ 10 ∷ 1 ∷ [])) (19 ∷ [])
    ∷ case (over_levels (level_block (20 ∷ 10 ∷ []))) (20 ∷ [])
    ∷ case (of_block []) (1 ∷ [])
    ∷ case (of_block (set knee_plan 0 50)) (2 ∷ [])
    ∷ case (of_tasks (replicate 17 (task 10 1))) (3 ∷ [])
    ∷ case (of_block (knee_plan ++ 0 ∷ [])) (4 ∷ [])
    ∷ case (of_block (set (plan_block (task 10 100 ∷ [])) 5 1)) (5 ∷ [])
    ∷ case (of_tasks (task 0 100 ∷ [])) (6 ∷ [])
    ∷ case (of_block (in_edition2 knee_tasks)) (21 ∷ [])
    ∷ case (of_tasks (task 1000 1 ∷ task 1001 1 ∷ [])) (7 ∷ [])
    ∷ case (of_tasks (task 1 101 ∷ [])) (8 ∷ [])
    ∷ []

-- the promise with later and earlier swapped
abbrev pub LaterClosed : Type 0
LaterClosed =
    (levels block pairs buffer : List ℕ) (passes : List Pass) →
    Started levels block pairs buffer →
    EarlierClosed (timing (speeds_in levels) (tasks_in block)) (map swapped (pairs_in pairs)) (actual_book levels block pairs buffer passes)
  where
    swapped : Pair → Pair
    swapped p = record { earlier = p.later; later = p.earlier }

-- the promise of one pair, whether it is good or not, at the start of the knee's plan
abbrev pub HeldAtStart : ℕ → ℕ → Type 0
HeldAtStart earlier later =
    EarlierClosed (timing (speeds_in base_levels) (tasks_in knee_plan)) (record { earlier = earlier; later = later } ∷ [])
    (actual_book base_levels knee_plan [] (replicate state_length 0) [])
