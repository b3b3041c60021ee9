-- 02, No. 2, "Conversion time doesn't stretch": cases of plan blocks in two editions, of fixed ticks in orders and passes, and in a state.
-- Assumes nothing.
use Rattle.std.specs.Prelude.{ℕ, true, false, List, [], ◌∷◌, ◌++◌, take, set, replicate}
use Rattle.arith.specs.Need.{need}
use Rattle.arith.specs.Bits.{packed}
use Rattle.arith.specs.Divisor.{gcd, lcm}
use Rattle.plan.specs.declared.Task.{Task}
use Rattle.plan.specs.Times.{time_of, worn}
use Rattle.plan.specs.Blocks.{plan_bits, plan_block}
use Rattle.schedule.specs.PlainSchedule.{more_urgent}
use Rattle.reclaiming.specs.Replies.{run_task, stay_idle}
use Rattle.reclaiming.specs.Passes.{Pass}
use Rattle.reclaiming.specs.StateBlock.{state_length}
use Rattle.reclaiming.specs.Run.{Line, bytes_after, started_bytes, line, run_lines}
use Rattle.worked_cases.specs.Cases.{Case, task, pass, base_levels, bench_tasks, case, read_values, judged_values, start_values, pass_values}

-- a task with fixed ticks
abbrev converting : ℕ → ℕ → ℕ → Task
converting p w f = record { period = p; worst = w; fixed = f; floor = 0 }

-- a block in edition 2, whatever the tasks add
abbrev pub in_edition2 : List Task → List ℕ
in_edition2 ts = packed (plan_bits 2 ts)

-- one task of period 40 and worst case 300 with 3 fixed ticks; in 01 it is, without them, "in hex, 10 80 14 00 09 60"
abbrev sensor : List ℕ
sensor = plan_block (converting 40 300 3 ∷ [])

-- an angle sensor of 7 fixed ticks beside a short task: its job is interrupted within them at tick 6, and finishes early within them at 8
abbrev pub angle_plan : List ℕ
angle_plan = plan_block (task 6 10 ∷ converting 18 20 7 ∷ [])

abbrev angle_passes : List Pass
angle_passes = pass true 1 ∷ pass false 5 ∷ pass true 1 ∷ pass true 1 ∷ []

-- the state's bytes after the first n of these passes
abbrev angle_after : ℕ → List ℕ
angle_after n = bytes_after (started_bytes base_levels angle_plan [] (replicate state_length 0)) (take n angle_passes)

-- the run, line for line; the line that begins with `unfolding`, here and below, only lets it be computed
abbrev pub angle_lines : List Line
unfolding need time_of worn lcm gcd more_urgent
angle_lines = run_lines base_levels angle_plan [] (replicate state_length 0) angle_passes

abbrev pub wanted_lines : List Line
wanted_lines =
    line 0 (run_task 0 0 1)
    ∷ line 1 (run_task 1 0 5)
    ∷ line 6 (run_task 0 0 1)
    ∷ line 7 (run_task 1 0 4)
    ∷ line 8 (stay_idle 4)
    ∷ []

-- the table; in a state the sensor's work left stands in bytes 25 to 27, its fixed ticks in byte 30, those left in byte 31
abbrev pub conversions : List Case
unfolding need time_of worn lcm gcd more_urgent
conversions =
    -- "8 bits of fixed ticks (0 to 255) and 3 spare zero bits", a floor of 0 since No. 8: 7 bytes for one task
    case sensor (0x20 ∷ 0x80 ∷ 0x14 ∷ 0x00 ∷ 0x09 ∷ 0x60 ∷ 0x18 ∷ [])
    ∷ case (read_values sensor) (0 ∷ 0 ∷ 40 ∷ [])
    -- "The writer uses edition 1 where all are zero."
    ∷ case (plan_block (task 40 300 ∷ [])) (0x10 ∷ 0x80 ∷ 0x14 ∷ 0x00 ∷ 0x09 ∷ 0x60 ∷ [])
    -- "question 2 accepts 1 or 2"
    ∷ case (read_values (set sensor 0 0x00)) (2 ∷ [])
    ∷ case (read_values (set sensor 0 0x30)) (2 ∷ [])
    -- the length is the edition's: a byte short, a byte long, and an edition 2 block of edition 1's length
    ∷ case (read_values (take 6 sensor)) (4 ∷ [])
    ∷ case (read_values (sensor ++ (0 ∷ []))) (4 ∷ [])
    ∷ case (read_values (set sensor 0 0x10)) (4 ∷ [])
    -- the closing bit of two tasks; the spare bits are floors, and No. 8's
    ∷ case (read_values (set angle_plan 12 0x71)) (5 ∷ [])
    -- "21 an edition 2 block whose additions are all zero; put after 6 in reading": before 7 and 8
    ∷ case (read_values (in_edition2 (task 40 300 ∷ []))) (21 ∷ [])
    ∷ case (read_values (in_edition2 (task 0 300 ∷ []))) (6 ∷ [])
    ∷ case (read_values (in_edition2 (task 1000 1 ∷ task 1001 1 ∷ []))) (21 ∷ [])
    ∷ case (read_values (in_edition2 (task 1 101 ∷ []))) (21 ∷ [])
    ∷ case (start_values base_levels (in_edition2 (task 40 300 ∷ [])) 0) (21 ∷ [])
    -- fixed ticks 255 and, as a list has them, 256
    ∷ case (read_values (plan_block (converting 256 10 255 ∷ []))) (0 ∷ 0 ∷ 256 ∷ [])
    ∷ case (judged_values (converting 256 10 255 ∷ [])) (0 ∷ 0 ∷ 256 ∷ [])
    ∷ case (judged_values (converting 300 10 256 ∷ [])) (6 ∷ [])
    -- no level makes them shorter: a tick less of the period, and the bench plan, which fills 30 of 30
    ∷ case (judged_values (converting 255 10 255 ∷ [])) (8 ∷ [])
    ∷ case (judged_values bench_tasks) (0 ∷ 7 ∷ 30 ∷ [])
    ∷ case (judged_values (task 10 400 ∷ task 10 400 ∷ converting 30 600 1 ∷ [])) (8 ∷ [])
    -- 4 fixed ticks and 5 at level 6 are 9 of the 10; at level 5 they would be 11
    ∷ case (start_values base_levels (plan_block (converting 10 400 4 ∷ [])) state_length) (0 ∷ 0 ∷ 6 ∷ 9 ∷ [])
    -- at tick 7 the sensor's job has 2 fixed ticks left and needs 2 more: 3 ticks are accepted, 4 unfinished and 5 are not
    ∷ case (pass_values (angle_after 3) 3 false) (0 ∷ 1 ∷ 0 ∷ 1 ∷ [])
    ∷ case (pass_values (angle_after 3) 4 false) (14 ∷ [])
    ∷ case (pass_values (angle_after 3) 4 true) (0 ∷ 1 ∷ [])
    ∷ case (pass_values (angle_after 3) 5 true) (14 ∷ [])
    -- "Soundness requires these left to be no more than the fixed ticks": 7 and 8 of 7 at the start, where the job has 9 plain ticks left
    ∷ case (pass_values (angle_after 0) 1 true) (0 ∷ 1 ∷ 0 ∷ 5 ∷ [])
    ∷ case (pass_values (set (set (angle_after 0) 27 10) 31 8) 1 true) (10 ∷ [])
    ∷ case (pass_values (set (set (angle_after 0) 27 10) 31 7) 1 true) (0 ∷ 1 ∷ 0 ∷ 5 ∷ [])
    -- "and zero in a finished job", here with 3 plain ticks left
    ∷ case (pass_values (angle_after 4) 1 false) (0 ∷ 3 ∷ [])
    ∷ case (pass_values (set (angle_after 4) 31 1) 1 false) (10 ∷ [])
    ∷ []
