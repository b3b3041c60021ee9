-- 01, "On each side of the edge": the cases marked * for proof, as one table, with 01's speeds loaded. 01, "The bench program": its example.
-- 02, No. 1: cases of level blocks and of the tables in them.
-- Assumes nothing.
use Rattle.std.specs.Prelude.{ℕ, ◌+◌, Bool, true, false, List, [], ◌∷◌, ◌++◌, length, take, drop, set, replicate}
use Rattle.arith.specs.Choice.{every}
use Rattle.arith.specs.Need.{need}
use Rattle.arith.specs.Divisor.{gcd, lcm}
use Rattle.arith.specs.Asking.{Answer, values, refusal}
use Rattle.plan.specs.declared.Task.{Task}
use Rattle.plan.specs.declared.Judged.{Judged}
use Rattle.plan.specs.Answers.{accepted_with, verdict_answer, judged_list, read_block}
use Rattle.plan.specs.Times.{time_of, worn}
use Rattle.plan.specs.LevelBlocks.{level_block, read_levels}
use Rattle.plan.specs.Levels.{base_speeds, speed_of, hyperperiod, demand_within, nominal}
use Rattle.plan.specs.Blocks.{plan_block, plan_of}
use Rattle.schedule.specs.PlainSchedule.{Book, more_urgent}
use Rattle.reclaiming.specs.declared.Order.TheVariants.{Run, Idle}
use Rattle.reclaiming.specs.Allotments.{timing}
use Rattle.reclaiming.specs.Orders.{View}
use Rattle.reclaiming.specs.Replies.{Reply, run_task, stay_idle, reply_answer}
use Rattle.reclaiming.specs.Passes.{Pass}
use Rattle.reclaiming.specs.Books.{DispatcherBook, opened_book, booked, ran}
use Rattle.reclaiming.specs.Ideal.{ticked_view, ideal_first, ideal_reply, ideal_replies}
use Rattle.reclaiming.specs.Earliness.{earliness}
use Rattle.reclaiming.specs.StateBlock.{same_bytes, tail_at, state_length}
use Rattle.reclaiming.specs.Calls.{start_reply, pass_reply, show_reply, show_buffer}
use Rattle.reclaiming.specs.Run.{Line, bytes_after, started_bytes, line, lines_from, run_lines}
use Rattle.plan.specs.Counted.{counted_answer, refused}
use Rattle.std.specs.declared.result.Result.TheVariants.{Ok, Err}

abbrev pub task : ℕ → ℕ → Task
task p w = record { period = p; worst = w; fixed = 0; floor = 0 }

abbrev pub pass : Bool → ℕ → Pass
pass finished d = record { d = d; finished = finished }

-- 01: "Input: the plan (10, 400), (10, 400), (30, 600), then hex 8001 8007 8002 8004 8004 0002."; 02, No. 4: "the last two passes become
-- hex 8005 0001"
abbrev pub bench_tasks : List Task
bench_tasks = task 10 400 ∷ task 10 400 ∷ task 30 600 ∷ []

abbrev pub bench_block : List ℕ
bench_block = plan_block bench_tasks

abbrev pub bench_passes : List Pass
bench_passes = pass true 1 ∷ pass true 7 ∷ pass true 2 ∷ pass true 4 ∷ pass true 5 ∷ pass false 1 ∷ []

-- 02, No. 1: "01's cases hold with 01's speeds loaded"
abbrev pub base_levels : List ℕ
base_levels = level_block base_speeds

-- the state's bytes at the start, and after the first n of these passes
abbrev pub bench_started : List ℕ
bench_started = started_bytes base_levels bench_block [] (replicate state_length 0)

abbrev pub bench_after : ℕ → List ℕ
bench_after n = bytes_after bench_started (take n bench_passes)

-- 01: "First line: count, nominal level, hyperperiod." The example's is "plan 3 7 30".
abbrev pub bench_judged : Judged
bench_judged = record { verdict = accepted_with 7 30; plan = plan_of bench_tasks }

-- the example's run, line for line; the line that begins with `unfolding`, here and below, only lets them be computed
abbrev pub bench_lines : List Line
unfolding need time_of worn lcm gcd more_urgent
bench_lines = run_lines base_levels bench_block [] (replicate state_length 0) bench_passes

-- the example's lines after the first; 02, No. 4: "the line at 14 becomes "14 run 1 6 5", [..] and the idle line becomes "19 idle 1""
abbrev pub listed_lines : List Line
listed_lines =
    line 0 (run_task 0 7 4)
    ∷ line 1 (run_task 1 5 7)
    ∷ line 8 (run_task 2 7 2)
    ∷ line 10 (run_task 0 7 4)
    ∷ line 14 (run_task 1 6 5)
    ∷ line 19 (stay_idle 1)
    ∷ line 20 (run_task 0 6 5)
    ∷ []

-- a run from the two books alone: the first order and the replies to the passes, with the clock of the dispatcher's book
abbrev pub ideal_lines : List ℕ → List Task → List Pass → List Line
ideal_lines speeds ts passes =
    let first : Reply = ideal_first speeds ts in
    line 0 first ∷ lines_from speeds ts (opened_book ts first) (ideal_replies speeds ts passes)

-- the paper's earliness of the job that each reply of a run says to run, at the moment at which it is chosen; 0 for every other reply
abbrev pub earliness_of : List ℕ → List Task → View → Reply → ℕ
earliness_of speeds ts v (Ok (Run x level hold)) = earliness speeds ts v x
earliness_of speeds ts v (Ok (Idle hold)) = 0
earliness_of speeds ts v (Err e) = 0

abbrev pub earliness_along : List ℕ → List Task → DispatcherBook → Book → List Pass → List ℕ
earliness_along speeds ts a b [] = []
earliness_along speeds ts a b (p ∷ ps) =
    let r : Reply = ideal_reply speeds ts a b p in
    earliness_of speeds ts (ticked_view speeds ts a b p) r ∷ earliness_along speeds ts (booked speeds ts a p r) (ran (timing speeds ts) b p r) ps

-- 01's cases of refused passes, put to the books alone: at tick 0, and of a finish while idle
abbrev pub edge_passes : List Pass
edge_passes = pass false 0 ∷ pass true 11 ∷ pass false 4 ∷ pass true 5 ∷ (take 5 bench_passes ++ (pass true 1 ∷ []))

abbrev pub edge_lines : List Line
edge_lines =
    line 0 (run_task 0 7 4)
    ∷ line 0 (refused 11)
    ∷ line 0 (refused 12)
    ∷ line 0 (refused 14)
    ∷ line 0 (refused 14)
    ∷ (take 5 (drop 1 listed_lines) ++ (line 19 (refused 13) ∷ []))

-- an answer as numbers: a refusal is its number alone; else 0, then the answer's values
abbrev pub told : Answer → List ℕ
told (values vs) = 0 ∷ vs
told (refusal n) = n ∷ []

-- what reading a block, judging a list, passing and showing give; showing with what it leaves in the lent buffer
abbrev pub read_over : List ℕ → List ℕ → List ℕ
read_over levels block = told (verdict_answer (read_block levels block).verdict)

abbrev pub read_values : List ℕ → List ℕ
read_values block = read_over base_levels block

abbrev pub judged_over : List ℕ → List Task → List ℕ
judged_over levels ts = told (verdict_answer (judged_list levels (length ts) ts).verdict)

abbrev pub judged_values : List Task → List ℕ
judged_values ts = judged_over base_levels ts

abbrev pub pass_values : List ℕ → ℕ → Bool → List ℕ
pass_values state d finished = told (reply_answer (pass_reply state d finished))

abbrev pub shown_values : List ℕ → List ℕ → List ℕ
shown_values state buffer = told (counted_answer (show_reply state (length buffer))) ++ show_buffer state buffer

-- what reading a level block gives, with the eight speeds beside it; and starting
abbrev load_values : List ℕ → List ℕ
load_values levels = told (counted_answer (read_levels levels).answer) ++ (read_levels levels).speeds

abbrev pub start_values : List ℕ → List ℕ → ℕ → List ℕ
start_values levels block room = told (reply_answer (start_reply levels block [] room))

-- a case: what the definitions give, and what 01 says that it is
pub record Case : Type 0 where
  pub found : List ℕ
  pub wanted : List ℕ

abbrev pub case : List ℕ → List ℕ → Case
case found wanted = record { found = found; wanted = wanted }

-- the table
abbrev pub starred : List Case
unfolding need time_of worn lcm gcd more_urgent
starred =
    -- "Empty block: 1."
    case (read_values []) (1 ∷ [])
    -- "Count 17: 3.": of a block, and of a list
    ∷ case (read_values (plan_block (replicate 17 (task 10 1)))) (3 ∷ [])
    ∷ case (judged_values (replicate 17 (task 10 1))) (3 ∷ [])
    -- "Periods 15,625 and 64, worst cases 1: hyperperiod 1,000,000, accepted."
    ∷ case (judged_values (task 15625 1 ∷ task 64 1 ∷ [])) (0 ∷ 0 ∷ 1000000 ∷ [])
    -- "1,000 and 1,001: 7."
    ∷ case (judged_values (task 1000 1 ∷ task 1001 1 ∷ [])) (7 ∷ [])
    -- "The bench plan fills 30 of 30.": the sum at its nominal level, and its hyperperiod
    ∷ case
    (demand_within (hyperperiod bench_tasks) (speed_of base_speeds (nominal base_speeds bench_tasks)) bench_tasks ∷ hyperperiod bench_tasks ∷ [])
    (30 ∷ 30 ∷ [])
    -- "With 601 for 600: 8."
    ∷ case (judged_values (task 10 400 ∷ task 10 400 ∷ task 30 601 ∷ [])) (8 ∷ [])
    -- "Period 1: work 10 is level 0;"
    ∷ case (judged_values (task 1 10 ∷ [])) (0 ∷ 0 ∷ 1 ∷ [])
    -- "100 is level 7;"
    ∷ case (judged_values (task 1 100 ∷ [])) (0 ∷ 7 ∷ 1 ∷ [])
    -- "101 is 8."
    ∷ case (judged_values (task 1 101 ∷ [])) (8 ∷ [])
    -- "Bench plan at tick 0, passes: 3 unfinished, accepted;": task and level stay, and 1 tick of the hold is left
    ∷ case (pass_values bench_started 3 false) (0 ∷ 0 ∷ 7 ∷ 1 ∷ [])
    -- "4 unfinished, 14;"
    ∷ case (pass_values bench_started 4 false) (14 ∷ [])
    -- "11 finished, 12;"
    ∷ case (pass_values bench_started 11 true) (12 ∷ [])
    -- "Queue at tick 1, hex 00 00 03 01 00 04 02 00 06;": 9 bytes written
    ∷ case (shown_values (bench_after 1) (replicate 9 255)) (0 ∷ 9 ∷ 0x00 ∷ 0x00 ∷ 0x03 ∷ 0x01 ∷ 0x00 ∷ 0x04 ∷ 0x02 ∷ 0x00 ∷ 0x06 ∷ [])
    -- "into 8 bytes: 9.": and the 8 bytes stay as they were
    ∷ case (shown_values (bench_after 1) (replicate 8 255)) (9 ∷ replicate 8 255)
    -- "At tick 20: (2, 2), (0, 4), (1, 4)."
    ∷ case (shown_values (bench_after 6) (replicate 9 255)) (0 ∷ 9 ∷ 2 ∷ 0 ∷ 2 ∷ 0 ∷ 0 ∷ 4 ∷ 1 ∷ 0 ∷ 4 ∷ [])
    ∷ []

-- a refusal of a level block, with no speed beside it
abbrev refused_levels : ℕ → List ℕ
refused_levels n = n ∷ replicate 8 0

-- 02, No. 1: cases on each side of 18, 19 and 20, and of the tables that are loaded
abbrev pub boards : List Case
unfolding need time_of worn lcm gcd more_urgent
boards =
    -- 01's speeds, in hex 80 28 14 07 82 80 c8 3c 14 06 40
    case base_levels (0x80 ∷ 0x28 ∷ 0x14 ∷ 0x07 ∷ 0x82 ∷ 0x80 ∷ 0xc8 ∷ 0x3c ∷ 0x14 ∷ 0x06 ∷ 0x40 ∷ [])
    ∷ case (load_values base_levels) (0 ∷ 8 ∷ base_speeds)
    -- "18 block empty or count outside 1 to 8"
    ∷ case (load_values []) (refused_levels 18)
    ∷ case (load_values (0x00 ∷ 0x00 ∷ [])) (refused_levels 18)
    ∷ case (load_values (level_block (10 ∷ 20 ∷ 30 ∷ 40 ∷ 50 ∷ 60 ∷ 80 ∷ 100 ∷ 120 ∷ []))) (refused_levels 18)
    -- "19 length or closing bits wrong": a byte short, a byte long, the first and the last closing bit
    ∷ case (load_values (take 10 base_levels)) (refused_levels 19)
    ∷ case (load_values (base_levels ++ (0 ∷ []))) (refused_levels 19)
    ∷ case (load_values (set base_levels 10 0x48)) (refused_levels 19)
    ∷ case (load_values (set base_levels 10 0x41)) (refused_levels 19)
    -- "20 a speed out of range or not rising": 0 and 1, 1,000 and 1,001, equal, falling
    ∷ case (load_values (level_block (0 ∷ []))) (refused_levels 20)
    ∷ case (load_values (level_block (1 ∷ 1000 ∷ []))) (0 ∷ 2 ∷ 1 ∷ 1000 ∷ replicate 6 0)
    ∷ case (load_values (level_block (1 ∷ 1001 ∷ []))) (refused_levels 20)
    ∷ case (load_values (level_block (5 ∷ 5 ∷ []))) (refused_levels 20)
    ∷ case (load_values (level_block (5 ∷ 6 ∷ 4 ∷ []))) (refused_levels 20)
    -- "put in that order": 19 before 20; 20 "before all else"
    ∷ case (load_values (0x10 ∷ 0x01 ∷ [])) (refused_levels 19)
    ∷ case (read_over (level_block (0 ∷ [])) []) (20 ∷ [])
    ∷ case (judged_over [] (replicate 17 (task 10 1))) (18 ∷ [])
    ∷ case (start_values (level_block (0 ∷ [])) [] 0) (20 ∷ [])
    -- one level alone: a job takes the whole of its period
    ∷ case (judged_over (level_block (1000 ∷ [])) (task 1 1000 ∷ [])) (0 ∷ 0 ∷ 1 ∷ [])
    ∷ case (judged_over (level_block (1000 ∷ [])) (task 1 1001 ∷ [])) (8 ∷ [])
    ∷ case (start_values (level_block (1000 ∷ [])) (plan_block (task 1 1000 ∷ [])) state_length) (0 ∷ 0 ∷ 0 ∷ 1 ∷ [])
    -- speeds 1 and 1,000: the lower one while it will do
    ∷ case (start_values (level_block (1 ∷ 1000 ∷ [])) (plan_block (task 10 10 ∷ [])) state_length) (0 ∷ 0 ∷ 0 ∷ 10 ∷ [])
    ∷ case (start_values (level_block (1 ∷ 1000 ∷ [])) (plan_block (task 10 11 ∷ [])) state_length) (0 ∷ 0 ∷ 1 ∷ 1 ∷ [])
    -- the bench plan is admitted by 01's table, and by none of its levels but the last
    ∷ case (judged_over base_levels bench_tasks) (0 ∷ 7 ∷ 30 ∷ [])
    ∷ case (judged_over (level_block (take 7 base_speeds)) bench_tasks) (8 ∷ [])
    -- "The state block grows to 217 bytes", and 02, No. 6: to 221
    ∷ case (start_values base_levels bench_block 220) (9 ∷ [])
    ∷ case (start_values base_levels bench_block 221) (0 ∷ 0 ∷ 7 ∷ 4 ∷ [])
    -- "the soundness question covers them": another count, a speed that does not rise, and a speed past the count
    ∷ case (pass_values (set bench_started tail_at 7) 3 false) (10 ∷ [])
    ∷ case (pass_values (set bench_started tail_at 9) 3 false) (10 ∷ [])
    ∷ case (pass_values (set bench_started (tail_at + 16) 80) 3 false) (10 ∷ [])
    ∷ case (pass_values (set one_level (tail_at + 4) 1) 1 true) (10 ∷ [])
    ∷ case (pass_values one_level 1 true) (0 ∷ 0 ∷ 0 ∷ 1 ∷ [])
    ∷ []
  where
    one_level : List ℕ
    one_level = started_bytes (level_block (1000 ∷ [])) (plan_block (task 1 1000 ∷ [])) [] (replicate state_length 0)

-- one test of a whole table
abbrev pub matches : Case → Bool
matches c = same_bytes c.found c.wanted

abbrev pub agrees : List Case → Bool
agrees cases = every matches cases
