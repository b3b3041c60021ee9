-- 01, "The bench program": its example, computed from the definitions byte for byte. 02, No. 2: an input that is cut by edition 2.
-- Assumes nothing.
use Prim.Native.Nat.{ℕ}
use mathlib.Core.Path.{◌≡◌, refl}
use mathlib.Core.List.{List, [], ◌∷◌, ◌++◌}
use Rattle.arith.specs.Need.{need}
use Rattle.arith.specs.Divisor.{gcd, lcm}
use Rattle.plan.specs.Times.{time_of, worn}
use Rattle.schedule.specs.PlainSchedule.{more_urgent}
use Rattle.worked_cases.specs.Cases.{base_levels, bench_block}
use Rattle.worked_cases.specs.FixedCases.{angle_plan}
use Rattle.transcript.specs.Listing.{listing}

-- 01's speeds, then "the plan (10, 400), (10, 400), (30, 600), then hex 8001 8007 8002 8004 8004 0002", of which by 02, No. 4 "the last two
-- passes become hex 8005 0001"
abbrev pub bench_input : List ℕ
bench_input =
    base_levels
    ++ (bench_block
    ++ (0x80 ∷ 0x01 ∷ 0x80 ∷ 0x07 ∷ 0x80 ∷ 0x02 ∷ 0x80 ∷ 0x04 ∷ 0x80 ∷ 0x05 ∷ 0x00 ∷ 0x01 ∷ []))

-- "Output, whole:", with the lines that 02, No. 4 changes
abbrev pub bench_output : List ℕ
bench_output =
    -- "plan 3 7 30"
    112 ∷ 108 ∷ 97 ∷ 110 ∷ 32 ∷ 51 ∷ 32 ∷ 55 ∷ 32 ∷ 51 ∷ 48 ∷ 10
    -- "0 run 0 7 4"
    ∷ 48 ∷ 32 ∷ 114 ∷ 117 ∷ 110 ∷ 32 ∷ 48 ∷ 32 ∷ 55 ∷ 32 ∷ 52 ∷ 10
    -- "1 run 1 5 7"
    ∷ 49 ∷ 32 ∷ 114 ∷ 117 ∷ 110 ∷ 32 ∷ 49 ∷ 32 ∷ 53 ∷ 32 ∷ 55 ∷ 10
    -- "8 run 2 7 2"
    ∷ 56 ∷ 32 ∷ 114 ∷ 117 ∷ 110 ∷ 32 ∷ 50 ∷ 32 ∷ 55 ∷ 32 ∷ 50 ∷ 10
    -- "10 run 0 7 4"
    ∷ 49 ∷ 48 ∷ 32 ∷ 114 ∷ 117 ∷ 110 ∷ 32 ∷ 48 ∷ 32 ∷ 55 ∷ 32 ∷ 52 ∷ 10
    -- 02, No. 4: "14 run 1 6 5"
    ∷ 49 ∷ 52 ∷ 32 ∷ 114 ∷ 117 ∷ 110 ∷ 32 ∷ 49 ∷ 32 ∷ 54 ∷ 32 ∷ 53 ∷ 10
    -- 02, No. 4: "19 idle 1"
    ∷ 49 ∷ 57 ∷ 32 ∷ 105 ∷ 100 ∷ 108 ∷ 101 ∷ 32 ∷ 49 ∷ 10
    -- "20 run 0 6 5"
    ∷ 50 ∷ 48 ∷ 32 ∷ 114 ∷ 117 ∷ 110 ∷ 32 ∷ 48 ∷ 32 ∷ 54 ∷ 32 ∷ 53 ∷ 10
    ∷ []

pub bench_example : listing bench_input ≡ bench_output
unfolding need time_of worn lcm gcd more_urgent
bench_example = refl

-- an angle sensor of 7 fixed ticks beside a short task: passes 8001 0005 8001 8001
abbrev pub angle_input : List ℕ
angle_input = base_levels ++ (angle_plan ++ (0x80 ∷ 0x01 ∷ 0x00 ∷ 0x05 ∷ 0x80 ∷ 0x01 ∷ 0x80 ∷ 0x01 ∷ []))

abbrev pub angle_output : List ℕ
angle_output =
    -- "plan 2 0 18"
    112 ∷ 108 ∷ 97 ∷ 110 ∷ 32 ∷ 50 ∷ 32 ∷ 48 ∷ 32 ∷ 49 ∷ 56 ∷ 10
    -- "0 run 0 0 1"
    ∷ 48 ∷ 32 ∷ 114 ∷ 117 ∷ 110 ∷ 32 ∷ 48 ∷ 32 ∷ 48 ∷ 32 ∷ 49 ∷ 10
    -- "1 run 1 0 5"
    ∷ 49 ∷ 32 ∷ 114 ∷ 117 ∷ 110 ∷ 32 ∷ 49 ∷ 32 ∷ 48 ∷ 32 ∷ 53 ∷ 10
    -- "6 run 0 0 1"
    ∷ 54 ∷ 32 ∷ 114 ∷ 117 ∷ 110 ∷ 32 ∷ 48 ∷ 32 ∷ 48 ∷ 32 ∷ 49 ∷ 10
    -- "7 run 1 0 4"
    ∷ 55 ∷ 32 ∷ 114 ∷ 117 ∷ 110 ∷ 32 ∷ 49 ∷ 32 ∷ 48 ∷ 32 ∷ 52 ∷ 10
    -- "8 idle 4"
    ∷ 56 ∷ 32 ∷ 105 ∷ 100 ∷ 108 ∷ 101 ∷ 32 ∷ 52 ∷ 10
    ∷ []

pub angle_example : listing angle_input ≡ angle_output
unfolding need time_of worn lcm gcd more_urgent
angle_example = refl
