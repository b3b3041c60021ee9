-- 02, No. 4, "A lone job may use the gap": cases of orders, of passes and of soundness, the smallest run that uses its exception, and what
-- would be false without it.
-- Assumes nothing.
use Rattle.std.specs.Prelude.{ℕ, ◌<◌, true, false, List, [], ◌∷◌, ◌⊎◌, take, replicate}
use Rattle.arith.specs.Need.{need}
use Rattle.arith.specs.Divisor.{gcd, lcm}
use Rattle.plan.specs.declared.Rest.{Rest}
use Rattle.plan.specs.Times.{time_of, worn}
use Rattle.plan.specs.LevelBlocks.{level_block, speeds_in}
use Rattle.plan.specs.Blocks.{plan_block, tasks_in}
use Rattle.schedule.specs.PlainSchedule.{Job, more_urgent}
use Rattle.schedule.specs.Served.{OpenPlain}
use Rattle.reclaiming.specs.Replies.{run_task}
use Rattle.reclaiming.specs.Allotments.{timing}
use Rattle.reclaiming.specs.Orders.{next_arrival}
use Rattle.reclaiming.specs.Passes.{Pass}
use Rattle.reclaiming.specs.StateBlock.{State, entry_with, plan_in, encode, state_length}
use Rattle.reclaiming.specs.States.{state_with, passed_state}
use Rattle.reclaiming.specs.Run.{Line, bytes_after, started_bytes, line, run_lines}
use Rattle.reclaiming.specs.Promises.{OpenActual, Started, time_left, actual_book, plain_book}
use Rattle.worked_cases.specs.Cases.{Case, task, pass, case, bench_after, start_values, pass_values, shown_values}
use Rattle.plan.specs.Counted.{refused}

-- speeds 1 and 2, and two tasks of which the second is alone from tick 1 on
abbrev pub two_levels : List ℕ
two_levels = level_block (1 ∷ 2 ∷ [])

abbrev pub lone_plan : List ℕ
lone_plan = plan_block (task 3 2 ∷ task 3 2 ∷ [])

abbrev pub lone_passes : List Pass
lone_passes = pass true 1 ∷ pass false 1 ∷ pass false 1 ∷ pass true 1 ∷ []

-- the state's bytes after the first n of these passes
abbrev lone_after : ℕ → List ℕ
lone_after n = bytes_after (started_bytes two_levels lone_plan [] (replicate state_length 0)) (take n lone_passes)

-- the run, line for line; the line that begins with `unfolding`, here and below, only lets it be computed
abbrev pub lone_lines : List Line
unfolding need time_of worn lcm gcd more_urgent
lone_lines = run_lines two_levels lone_plan [] (replicate state_length 0) lone_passes

-- at 1 the gap is 2 ticks and 01's allowance 1; at 2 the plain job is closed, and an unfinished tick would reach the arrival
abbrev pub gap_lines : List Line
gap_lines =
    line 0 (run_task 0 1 1)
    ∷ line 1 (run_task 1 0 2)
    ∷ line 2 (run_task 1 0 1)
    ∷ line 2 (refused 14)
    ∷ line 3 (run_task 0 1 1)
    ∷ []

-- one level of speed 1, tasks (4, 3) and (8, 2): task 0 has so much work left, task 1 has 2 units and no plain ticks left
abbrev behind_at : ℕ → ℕ → ℕ → State
behind_at clock running work = state_with clock running 0 (entry_with (task 4 3) (left work) 3 ∷ entry_with (task 8 2) (left 2) 0 ∷ []) (1 ∷ [])
  where
    left : ℕ → Rest
    left work = record { fixed = 0; work = work }

-- the block of the state that d ticks, unfinished, make of one
abbrev passed_on : State → ℕ → List ℕ
passed_on s d = encode (passed_state s.speeds (timing s.speeds (plan_in s)) s d false)

-- the table
abbrev pub gaps : List Case
unfolding need time_of worn lcm gcd more_urgent
gaps =
    -- "the line at 14 becomes "14 run 1 6 5"": 5 ticks of the gap of 6, where 01's allowance is 4
    case (pass_values (bench_after 4) 4 false) (0 ∷ 1 ∷ 6 ∷ 1 ∷ [])
    ∷ case (pass_values (bench_after 4) 5 false) (14 ∷ [])
    -- "01's case of a finish while idle moves there, with 1 tick": 13
    ∷ case (pass_values (bench_after 5) 1 true) (13 ∷ [])
    -- not alone at tick 0: 01's allowance of 1, though the gap is 3
    ∷ case (start_values two_levels lone_plan state_length) (0 ∷ 0 ∷ 1 ∷ 1 ∷ [])
    -- alone from tick 0 on: 01's allowance is 1 and the gap 2
    ∷ case (start_values two_levels (plan_block (task 2 2 ∷ [])) state_length) (0 ∷ 0 ∷ 0 ∷ 2 ∷ [])
    -- "the larger of 01's and the ticks to the next arrival": at tick 1 of (2, 1), (6, 4) they are 2 and 1
    ∷ case
    (pass_values (started_bytes two_levels (plan_block (task 2 1 ∷ task 6 4 ∷ [])) [] (replicate state_length 0)) 1 true)
    (0 ∷ 1 ∷ 1 ∷ 1 ∷ [])
    -- at 2 the queue of the plain schedule is empty, and the job that goes on is accepted; with all its time, unfinished, it is not
    ∷ case (shown_values (lone_after 2) (replicate 3 255)) (0 ∷ 0 ∷ replicate 3 255)
    ∷ case (pass_values (lone_after 2) 1 false) (14 ∷ [])
    ∷ case (pass_values (lone_after 2) 1 true) (0 ∷ 0 ∷ 1 ∷ 1 ∷ [])
    -- soundness "lets a lone job's time at nominal exceed its plain ticks left": 2 ticks in a gap of 2
    ∷ case (pass_values (encode (behind_at 2 1 0)) 1 false) (0 ∷ 1 ∷ 0 ∷ 1 ∷ [])
    ∷ case (pass_values (encode (behind_at 2 1 0)) 2 true) (0 ∷ 0 ∷ 0 ∷ 3 ∷ [])
    -- "if its time at the order's level is at most the ticks to the next arrival": 2 ticks in a gap of 1
    ∷ case (pass_values (encode (behind_at 3 1 0)) 1 false) (10 ∷ [])
    -- without that test a tick would leave a state in which it is behind and not alone
    ∷ case (pass_values (passed_on (behind_at 3 1 0) 1) 1 false) (10 ∷ [])
    -- not alone, with either task running
    ∷ case (pass_values (encode (behind_at 2 0 1)) 1 true) (10 ∷ [])
    ∷ case (pass_values (encode (behind_at 2 1 1)) 1 false) (10 ∷ [])
    ∷ []

-- demand 3 without the exception: "every job still open in the dispatcher is open in the plain schedule", and no more
abbrev pub NeverBehind : Type 0
NeverBehind =
    (levels block pairs buffer : List ℕ) (passes : List Pass) →
    Started levels block pairs buffer →
    (j : Job) →
    OpenActual (timing (speeds_in levels) (tasks_in block)) (actual_book levels block pairs buffer passes) j →
    OpenPlain (plain_book levels block pairs buffer passes) j

-- and with "below" for "at most"
abbrev pub BelowTheGap : Type 0
BelowTheGap =
    (levels block pairs buffer : List ℕ) (passes : List Pass) →
    Started levels block pairs buffer →
    (j : Job) →
    OpenActual (timing (speeds_in levels) (tasks_in block)) (actual_book levels block pairs buffer passes) j →
    OpenPlain (plain_book levels block pairs buffer passes) j
    ⊎ (time_left (speeds_in levels) (actual_book levels block pairs buffer passes)
    < next_arrival (timing (speeds_in levels) (tasks_in block)) (actual_book levels block pairs buffer passes).clock)
