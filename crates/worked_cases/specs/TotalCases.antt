-- 02, No. 6, "How much of the queue is left": the total along the example's run and over an idle stretch, that asking for it puts no question
-- but that of the length, and entries with plain ticks left that are replaced.
-- Assumes nothing.
use Rattle.std.specs.Prelude.{ℕ, true, false, List, [], ◌∷◌, take, set, replicate}
use Rattle.arith.specs.Need.{need}
use Rattle.arith.specs.Divisor.{gcd, lcm}
use Rattle.plan.specs.declared.Task.{Task}
use Rattle.plan.specs.Times.{time_of, worn, no_rest}
use Rattle.plan.specs.LevelBlocks.{level_block}
use Rattle.plan.specs.Blocks.{plan_block}
use Rattle.schedule.specs.PlainSchedule.{more_urgent}
use Rattle.reclaiming.specs.declared.Entry.{Entry}
use Rattle.reclaiming.specs.StateBlock.{State, entry_with, encode, state_length}
use Rattle.reclaiming.specs.Calls.{pass_bytes, queued_reply}
use Rattle.reclaiming.specs.Run.{bytes_after, started_bytes}
use Rattle.worked_cases.specs.Cases.{Case, told, task, pass, case, bench_started, bench_after, pass_values, shown_values}
use Rattle.plan.specs.Counted.{counted_answer}

-- what asking for the total gives
abbrev queued_values : List ℕ → List ℕ
queued_values state = told (counted_answer (queued_reply state))

-- one level of speed 1, and a plan started over it
abbrev slow_level : List ℕ
slow_level = level_block (1 ∷ [])

abbrev slow_started : List Task → List ℕ
slow_started ts = started_bytes slow_level (plan_block ts) [] (replicate state_length 0)

-- the plan (3, 1) over it: the job finishes at 1, and 2 ticks are idle
abbrev idle_after : ℕ → List ℕ
idle_after n = bytes_after (slow_started (task 3 1 ∷ [])) (take n (pass true 1 ∷ pass false 1 ∷ pass false 1 ∷ []))

-- a state over it in which every job has finished, with a total
abbrev rested : ℕ → List Entry → ℕ → State
rested clock entries total = record { clock = clock; task = 255; level = 0; entries = entries; speeds = 1 ∷ []; total = total }

-- (2, 2) at clock 1, and (4, 2) twice at clock 3: at the next tick each is replaced, and has all its plain ticks left until then
abbrev rested_one : ℕ → List ℕ
rested_one total = encode (rested 1 (entry_with (task 2 2) no_rest 2 ∷ []) total)

abbrev rested_two : ℕ → List ℕ
rested_two total = encode (rested 3 (entry_with (task 4 2) no_rest 2 ∷ entry_with (task 4 2) no_rest 2 ∷ []) total)

-- the table
abbrev pub totals : List Case
unfolding need time_of worn lcm gcd more_urgent
totals =
    -- "It equals the full sum after the start and every accepted pass": 4, 4 and 6 ticks of the example's three tasks; at 10 and 20 two arrive
    case (queued_values bench_started) (0 ∷ 14 ∷ [])
    ∷ case (queued_values (bench_after 1)) (0 ∷ 13 ∷ [])
    ∷ case (queued_values (bench_after 2)) (0 ∷ 6 ∷ [])
    ∷ case (queued_values (bench_after 3)) (0 ∷ 12 ∷ [])
    ∷ case (queued_values (bench_after 4)) (0 ∷ 8 ∷ [])
    ∷ case (queued_values (bench_after 5)) (0 ∷ 3 ∷ [])
    ∷ case (queued_values (bench_after 6)) (0 ∷ 10 ∷ [])
    -- a refused pass leaves it
    ∷ case (queued_values (pass_bytes bench_started 0 false)) (0 ∷ 14 ∷ [])
    -- with nothing queued a tick takes nothing
    ∷ case (queued_values (idle_after 0)) (0 ∷ 1 ∷ [])
    ∷ case (queued_values (idle_after 1)) (0 ∷ 0 ∷ [])
    ∷ case (queued_values (idle_after 2)) (0 ∷ 0 ∷ [])
    ∷ case (queued_values (idle_after 3)) (0 ∷ 1 ∷ [])
    -- the largest of an accepted plan, since the allotments of one period of the longest task fit into it
    ∷ case (queued_values (slow_started (task 65535 65535 ∷ []))) (0 ∷ 65535 ∷ [])
    -- "asking only for the 221 bytes (10)"
    ∷ case (queued_values []) (10 ∷ [])
    ∷ case (queued_values (take 220 bench_started)) (10 ∷ [])
    ∷ case (queued_values (replicate 222 0)) (10 ∷ [])
    -- so an unsound state of 221 bytes is told what stands there
    ∷ case (queued_values (replicate 221 255)) (0 ∷ 4294967295 ∷ [])
    ∷ case (queued_values (set bench_started 220 15)) (0 ∷ 15 ∷ [])
    ∷ case (queued_values (set bench_started 217 1)) (0 ∷ 16777230 ∷ [])
    -- "A state whose total differs is unsound": one more, one less, and one in its first byte
    ∷ case (pass_values (set bench_started 220 15) 1 true) (10 ∷ [])
    ∷ case (pass_values (set bench_started 220 13) 1 true) (10 ∷ [])
    ∷ case (pass_values (set bench_started 217 1) 1 true) (10 ∷ [])
    ∷ case (shown_values (set bench_started 220 15) []) (10 ∷ [])
    -- a replaced entry takes its plain ticks with it: 2 of which the tick takes 1, and 2 new ones
    ∷ case (pass_values (rested_one 2) 1 false) (0 ∷ 0 ∷ 0 ∷ 2 ∷ [])
    ∷ case (queued_values (pass_bytes (rested_one 2) 1 false)) (0 ∷ 2 ∷ [])
    ∷ case (pass_values (rested_one 3) 1 false) (10 ∷ [])
    -- of two the tick takes 1 from the more urgent one
    ∷ case (queued_values (pass_bytes (rested_two 4) 1 false)) (0 ∷ 4 ∷ [])
    ∷ []
