-- 02, No. 8, "The valve never crawls": cases of floors in plan blocks, lists and numbers, of 24 among the questions, of orders from a floor on, and of
-- floors in a state.
-- Assumes nothing.
use Rattle.std.specs.Prelude.{ℕ, true, false, List, [], ◌∷◌, take, set, replicate}
use Rattle.arith.specs.Need.{need}
use Rattle.arith.specs.Divisor.{gcd, lcm}
use Rattle.plan.specs.declared.Task.{Task}
use Rattle.plan.specs.Times.{time_of, worn}
use Rattle.plan.specs.Levels.{base_speeds}
use Rattle.plan.specs.LevelBlocks.{level_block}
use Rattle.plan.specs.Blocks.{plan_block, plan_of}
use Rattle.plan.specs.Pairs.{pair_number}
use Rattle.plan.specs.Answers.{verdict_answer, judged_plan, write_plan, copy_number}
use Rattle.plan.specs.Numbers.{plan_from}
use Rattle.schedule.specs.PlainSchedule.{more_urgent}
use Rattle.reclaiming.specs.Replies.{run_task, stay_idle, reply_answer}
use Rattle.reclaiming.specs.Passes.{Pass}
use Rattle.reclaiming.specs.StateBlock.{entry_with, encode, state_length}
use Rattle.reclaiming.specs.States.{state_with}
use Rattle.reclaiming.specs.Calls.{start_reply}
use Rattle.reclaiming.specs.Run.{Line, bytes_after, started_bytes, line, run_lines}
use Rattle.worked_cases.specs.Cases.{Case, task, pass, base_levels, told, read_over, read_values, judged_over, judged_values, start_values, pass_values, shown_values, case}
use Rattle.worked_cases.specs.LoneCases.{two_levels}
use Rattle.plan.specs.Counted.{counted_answer}

-- a task with fixed ticks and a floor
abbrev floored : ℕ → ℕ → ℕ → ℕ → Task
floored p w f floor = record { period = p; worst = w; fixed = f; floor = floor }

-- one task of period 40 and worst case 300 with a floor; in edition 1 its block is, in hex, 10 80 14 00 09 60
abbrev hums : ℕ → List ℕ
hums floor = plan_block (floored 40 300 0 floor ∷ [])

-- the first n of 01's speeds: levels 0 to n - 1
abbrev levels_to : ℕ → List ℕ
levels_to n = level_block (take n base_speeds)

-- what judging numbers gives, and writing a plan into so much room
abbrev numbers_values : ℕ → List ℕ → List ℕ
numbers_values count numbers = told (verdict_answer (judged_plan base_levels (plan_from count numbers)).verdict)

abbrev write_values : List ℕ → List Task → ℕ → List ℕ
write_values levels ts room = told (counted_answer (write_plan levels (plan_of ts) room))

-- a valve whose coil hums below level 5, beside another task: level 1 is nominal, and the floor is above it
abbrev pub valve_plan : List ℕ
valve_plan = plan_block (floored 10 100 0 5 ∷ task 20 200 ∷ [])

abbrev pub valve_passes : List Pass
valve_passes = pass true 2 ∷ pass false 8 ∷ pass true 4 ∷ pass true 2 ∷ []

-- the state's bytes after the first n of these passes
abbrev valve_after : ℕ → List ℕ
valve_after n = bytes_after (started_bytes base_levels valve_plan [] (replicate state_length 0)) (take n valve_passes)

-- the run, line for line; the line that begins with `unfolding`, here and below, only lets it be computed
abbrev pub valve_lines : List Line
unfolding need time_of worn lcm gcd more_urgent
valve_lines = run_lines base_levels valve_plan [] (replicate state_length 0) valve_passes

-- the valve runs at level 5, at 0 one of several and at 14 alone; the other task, without a floor, at the lowest that will do
abbrev pub floored_lines : List Line
floored_lines =
    line 0 (run_task 0 5 2)
    ∷ line 2 (run_task 1 1 8)
    ∷ line 10 (run_task 1 0 4)
    ∷ line 14 (run_task 0 5 2)
    ∷ line 16 (stay_idle 4)
    ∷ []

-- speeds 1 and 2, one task (8, 4) with floor 1: it runs at level 1 with 4 units and no plain ticks left
abbrev behind_at : ℕ → List ℕ
behind_at clock = encode (state_with clock 0 1 (entry_with (floored 8 4 0 1) (record { fixed = 0; work = 4 }) 0 ∷ []) (1 ∷ 2 ∷ []))

-- the table; in a state the valve's floor and worst case stand in bytes 10 to 12, and the order's level in byte 5
abbrev pub floors : List Case
unfolding need time_of worn lcm gcd more_urgent
floors =
    -- "in the three spare bits of edition 2": with 3 fixed ticks, and alone, which "counts as an addition for [..] the writer's choice of edition"
    case (plan_block (floored 40 300 3 5 ∷ [])) (0x20 ∷ 0x80 ∷ 0x14 ∷ 0x00 ∷ 0x09 ∷ 0x60 ∷ 0x1d ∷ [])
    ∷ case (read_values (plan_block (floored 40 300 3 5 ∷ []))) (0 ∷ 0 ∷ 40 ∷ [])
    ∷ case (hums 5) (0x20 ∷ 0x80 ∷ 0x14 ∷ 0x00 ∷ 0x09 ∷ 0x60 ∷ 0x05 ∷ [])
    ∷ case (read_values (hums 5)) (0 ∷ 0 ∷ 40 ∷ [])
    ∷ case (hums 0) (0x10 ∷ 0x80 ∷ 0x14 ∷ 0x00 ∷ 0x09 ∷ 0x60 ∷ [])
    -- "Question 5 no longer tests these bits", and 21 counts them: each of the three
    ∷ case (read_values (set (hums 5) 6 0x01)) (0 ∷ 0 ∷ 40 ∷ [])
    ∷ case (read_values (set (hums 5) 6 0x02)) (0 ∷ 0 ∷ 40 ∷ [])
    ∷ case (read_values (set (hums 5) 6 0x04)) (0 ∷ 0 ∷ 40 ∷ [])
    ∷ case (read_values (set (hums 5) 6 0x00)) (21 ∷ [])
    -- "24 a floor naming no loaded level": 7 of eight, and of seven; 6 of seven; 1 of one
    ∷ case (read_over base_levels (hums 7)) (0 ∷ 0 ∷ 40 ∷ [])
    ∷ case (read_over (levels_to 7) (hums 7)) (24 ∷ [])
    ∷ case (read_over (levels_to 7) (hums 6)) (0 ∷ 0 ∷ 40 ∷ [])
    ∷ case (read_over (levels_to 1) (hums 1)) (24 ∷ [])
    -- as a list has them, of any size
    ∷ case (judged_values (floored 40 300 0 7 ∷ [])) (0 ∷ 0 ∷ 40 ∷ [])
    ∷ case (judged_values (floored 40 300 0 8 ∷ [])) (24 ∷ [])
    ∷ case (judged_values (floored 40 300 0 4294967295 ∷ [])) (24 ∷ [])
    -- "put after 6 and 21": before 7, 8, 22 and 9, in every call that takes a plan
    ∷ case (read_over (levels_to 7) (plan_block (floored 0 300 0 7 ∷ []))) (6 ∷ [])
    ∷ case (judged_over (levels_to 7) (floored 40 300 0 7 ∷ floored 40 300 256 0 ∷ [])) (6 ∷ [])
    ∷ case (read_over (levels_to 7) (plan_block (floored 1000 1 0 7 ∷ task 1001 1 ∷ []))) (24 ∷ [])
    ∷ case (judged_over (levels_to 7) (floored 1 101 0 7 ∷ [])) (24 ∷ [])
    ∷ case (pair_number (levels_to 7) (hums 7) (0 ∷ []) ∷ []) (24 ∷ [])
    ∷ case (told (reply_answer (start_reply (levels_to 7) (hums 7) (0 ∷ []) 0))) (24 ∷ [])
    ∷ case (write_values (levels_to 7) (floored 40 300 0 7 ∷ []) 0) (24 ∷ [])
    ∷ case (copy_number (levels_to 7) (hums 7) 0 ∷ []) (24 ∷ [])
    ∷ case (write_values base_levels (floored 40 300 0 7 ∷ []) 7) (0 ∷ 7 ∷ [])
    -- four numbers a task; three of one task mean what they meant, and of two tasks something else
    ∷ case (numbers_values 1 (40 ∷ 300 ∷ 3 ∷ 8 ∷ [])) (24 ∷ [])
    ∷ case (numbers_values 1 (40 ∷ 300 ∷ 3 ∷ [])) (0 ∷ 0 ∷ 40 ∷ [])
    ∷ case (numbers_values 2 (10 ∷ 400 ∷ 0 ∷ 10 ∷ 400 ∷ 0 ∷ [])) (6 ∷ [])
    -- the plan's verdict and its plain schedule do not look at floors: level 1, and 5 and 10 plain ticks
    ∷ case (read_values valve_plan) (0 ∷ 1 ∷ 20 ∷ [])
    ∷ case (shown_values (valve_after 0) (replicate 6 255)) (0 ∷ 6 ∷ 0 ∷ 0 ∷ 5 ∷ 1 ∷ 0 ∷ 10 ∷ [])
    -- without its floor the valve would run at level 1 for 5 ticks; with a floor of 1, too
    ∷ case (start_values base_levels (plan_block (floored 10 100 0 0 ∷ task 20 200 ∷ [])) state_length) (0 ∷ 0 ∷ 1 ∷ 5 ∷ [])
    ∷ case (start_values base_levels (plan_block (floored 10 100 0 1 ∷ task 20 200 ∷ [])) state_length) (0 ∷ 0 ∷ 1 ∷ 5 ∷ [])
    -- its time is that of its floor: 2 ticks, and 2 unfinished are too many
    ∷ case (pass_values (valve_after 0) 1 false) (0 ∷ 0 ∷ 5 ∷ 1 ∷ [])
    ∷ case (pass_values (valve_after 0) 2 false) (14 ∷ [])
    -- soundness wants the level "at or above the floor, and at most the higher of nominal and floor"
    ∷ case (pass_values (set (valve_after 0) 5 4) 1 false) (10 ∷ [])
    ∷ case (pass_values (set (valve_after 0) 5 6) 1 false) (10 ∷ [])
    ∷ case (pass_values (set (valve_after 0) 10 0x60) 1 false) (10 ∷ [])
    ∷ case (pass_values (set (valve_after 0) 10 0x40) 1 false) (10 ∷ [])
    ∷ case (pass_values (set (set (valve_after 0) 10 0x40) 5 4) 1 false) (0 ∷ 0 ∷ 4 ∷ 1 ∷ [])
    -- without a floor nominal is the most, and a level below it that will do is sound
    ∷ case (pass_values (set (valve_after 1) 5 2) 1 false) (10 ∷ [])
    ∷ case (pass_values (set (valve_after 2) 5 1) 1 false) (0 ∷ 1 ∷ 1 ∷ 1 ∷ [])
    -- "it also puts 24": of the valve, while the other task runs; of eight levels 7, 8 and 15, and of six 5 and 6
    ∷ case (pass_values (set (valve_after 1) 10 0x70) 1 false) (0 ∷ 1 ∷ 1 ∷ 7 ∷ [])
    ∷ case (pass_values (set (valve_after 1) 10 0x80) 1 false) (10 ∷ [])
    ∷ case (pass_values (set (valve_after 1) 10 0xf0) 1 false) (10 ∷ [])
    ∷ case (pass_values six_levels 1 true) (0 ∷ 1 ∷ 1 ∷ 9 ∷ [])
    ∷ case (pass_values (set six_levels 10 0x60) 1 true) (10 ∷ [])
    -- a floor past the count is no entry's, and unsound
    ∷ case (pass_values (set (valve_after 0) 34 0x10) 1 false) (10 ∷ [])
    -- a lone job above nominal may be behind, if its time is at most the gap: 2 ticks in 2, and in 1
    ∷ case (pass_values (behind_at 6) 2 true) (0 ∷ 0 ∷ 1 ∷ 2 ∷ [])
    ∷ case (pass_values (behind_at 7) 1 true) (10 ∷ [])
    -- alone from tick 0 on it could take all of the gap, and does not
    ∷ case (start_values two_levels (plan_block (floored 4 2 0 0 ∷ [])) state_length) (0 ∷ 0 ∷ 0 ∷ 2 ∷ [])
    ∷ case (start_values two_levels (plan_block (floored 4 2 0 1 ∷ [])) state_length) (0 ∷ 0 ∷ 1 ∷ 1 ∷ [])
    ∷ []
  where
    six_levels : List ℕ
    six_levels = started_bytes (levels_to 6) valve_plan [] (replicate state_length 0)
