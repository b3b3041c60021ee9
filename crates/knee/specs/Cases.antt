-- 02, No. 7, "Damping for the knee itself": on each side of its edges, as one table.
-- Assumes nothing.
use Rattle.std.specs.Prelude.{ℕ, true, false, List, [], ◌∷◌, map, replicate, ℤ, pos, neg_ℤ}
use Rattle.arith.specs.Need.{need}
use Rattle.arith.specs.Divisor.{gcd, lcm}
use Rattle.plan.specs.Times.{time_of, worn}
use Rattle.plan.specs.LevelBlocks.{level_block, speeds_in}
use Rattle.plan.specs.Blocks.{plan_block, tasks_in}
use Rattle.schedule.specs.PlainSchedule.{Timing, more_urgent}
use Rattle.reclaiming.specs.Replies.{run_task, stay_idle}
use Rattle.reclaiming.specs.Allotments.{timing}
use Rattle.reclaiming.specs.Passes.{Pass}
use Rattle.reclaiming.specs.Books.{DispatcherBook}
use Rattle.reclaiming.specs.StateBlock.{state_length}
use Rattle.reclaiming.specs.Calls.{start_reply}
use Rattle.reclaiming.specs.Run.{trace, started_bytes}
use Rattle.reclaiming.specs.Numbers.{reply_number}
use Rattle.reclaiming.specs.Play.{reply_numbers, played_actual}
use Rattle.worked_cases.specs.Cases.{Case, told, task, pass, case}
use Rattle.knee.specs.Curve.{damping_reply}
use Rattle.knee.specs.Refresh.{Finishes, finish, valve_job}
use Rattle.plan.specs.Counted.{counted_answer}

-- what the lookup gives at an angle
abbrev at : ℤ → List ℕ
at angle = told (counted_answer (damping_reply angle))

-- an angle below 0
abbrev minus : ℕ → ℤ
minus x = neg_ℤ (pos x)

-- twice the valve's period less one tick is attained: speed 1, the plan (2, 2), and a valve job that ends at once before one that takes its
-- worst case
abbrev slow_level : List ℕ
slow_level = level_block (1 ∷ [])

abbrev slow_block : List ℕ
slow_block = plan_block (task 2 2 ∷ [])

abbrev slow_passes : List Pass
slow_passes = pass true 1 ∷ pass false 1 ∷ pass true 2 ∷ []

-- the replies to its start and its passes, as numbers
abbrev slow_first : ℕ
slow_first = reply_number (run_task 0 0 2)

abbrev slow_replies : List ℕ
slow_replies = map reply_number (stay_idle 1 ∷ run_task 0 0 2 ∷ run_task 0 0 2 ∷ [])

abbrev slow_timing : Timing
slow_timing = timing (speeds_in slow_level) (tasks_in slow_block)

abbrev slow_book : ℕ → DispatcherBook
slow_book = played_actual slow_level slow_block slow_first slow_passes slow_replies

-- the table
abbrev pub edges : List Case
unfolding need time_of worn lcm gcd more_urgent
edges =
    -- "-50 to 1,300", and the smallest and the largest number that C can hand over
    case (at (minus 2147483648)) (23 ∷ [])
    ∷ case (at (minus 51)) (23 ∷ [])
    ∷ case (at (minus 50)) (0 ∷ 12 ∷ [])
    ∷ case (at (minus 49)) (0 ∷ 12 ∷ [])
    ∷ case (at (pos 1299)) (0 ∷ 111 ∷ [])
    ∷ case (at (pos 1300)) (0 ∷ 112 ∷ [])
    ∷ case (at (pos 1301)) (23 ∷ [])
    ∷ case (at (pos 2147483647)) (23 ∷ [])
    -- "Below 0 the damping is 12"
    ∷ case (at (minus 1)) (0 ∷ 12 ∷ [])
    ∷ case (at (pos 0)) (0 ∷ 12 ∷ [])
    ∷ case (at (pos 1)) (0 ∷ 12 ∷ [])
    -- "rounded down": the first whole number between two points, and the tenth before it
    ∷ case (at (pos 24)) (0 ∷ 12 ∷ [])
    ∷ case (at (pos 25)) (0 ∷ 13 ∷ [])
    -- the points between, each with its neighbours
    ∷ case (at (pos 49)) (0 ∷ 13 ∷ [])
    ∷ case (at (pos 50)) (0 ∷ 14 ∷ [])
    ∷ case (at (pos 51)) (0 ∷ 14 ∷ [])
    ∷ case (at (pos 99)) (0 ∷ 16 ∷ [])
    ∷ case (at (pos 100)) (0 ∷ 17 ∷ [])
    ∷ case (at (pos 101)) (0 ∷ 17 ∷ [])
    ∷ case (at (pos 199)) (0 ∷ 24 ∷ [])
    ∷ case (at (pos 200)) (0 ∷ 25 ∷ [])
    ∷ case (at (pos 201)) (0 ∷ 25 ∷ [])
    ∷ case (at (pos 399)) (0 ∷ 48 ∷ [])
    ∷ case (at (pos 400)) (0 ∷ 49 ∷ [])
    ∷ case (at (pos 401)) (0 ∷ 49 ∷ [])
    ∷ case (at (pos 599)) (0 ∷ 72 ∷ [])
    ∷ case (at (pos 600)) (0 ∷ 73 ∷ [])
    ∷ case (at (pos 601)) (0 ∷ 73 ∷ [])
    ∷ case (at (pos 899)) (0 ∷ 96 ∷ [])
    ∷ case (at (pos 900)) (0 ∷ 97 ∷ [])
    ∷ case (at (pos 901)) (0 ∷ 97 ∷ [])
    -- the slow run's replies, and its finishes at 1 and at 4
    ∷ case (reply_number (start_reply slow_level slow_block [] state_length) ∷ []) (slow_first ∷ [])
    ∷ case (reply_numbers (trace (started_bytes slow_level slow_block [] (replicate state_length 0)) slow_passes)) slow_replies
    ∷ case (finish slow_timing slow_book 0 ∷ finish slow_timing slow_book 2 ∷ []) (1 ∷ 4 ∷ [])
    ∷ []

-- and its first and third pass do finish consecutive valve jobs
abbrev pub Attained : Type 0
Attained = Finishes slow_timing slow_book 0 (valve_job 0) × Finishes slow_timing slow_book 2 (valve_job 2)
