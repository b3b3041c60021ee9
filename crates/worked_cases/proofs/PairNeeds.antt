-- 02, No. 5: the promise is false with later and earlier swapped, and of pairs that are not good. In each case the start of the knee's plan
-- says so: the angle's job runs, and nothing is closed.
-- Assumes nothing.
use Prim.Native.Nat.{ℕ}
use mathlib.Core.Path.{◌≡◌, refl, subst}
use mathlib.Core.List.{List, [], ◌∷◌}
use mathlib.Core.Logic.{inl}
use lib.ListN.{replicate}
use Rattle.arith.specs.Need.{need}
use Rattle.arith.specs.Divisor.{gcd, lcm}
use Rattle.plan.specs.Times.{time_of, worn}
use Rattle.plan.specs.LevelBlocks.{speeds_in}
use Rattle.plan.specs.Blocks.{tasks_in}
use Rattle.schedule.specs.PlainSchedule.{Timing, Job, more_urgent}
use Rattle.schedule.specs.Feasibility.{In}
use Rattle.reclaiming.specs.Allotments.{timing}
use Rattle.reclaiming.specs.StateBlock.{state_length}
use Rattle.reclaiming.specs.Promises.{Started, arrived_with, actual_book}
use Rattle.worked_cases.specs.Cases.{base_levels}
use Rattle.worked_cases.specs.PairCases.{knee_plan, LaterClosed, HeldAtStart}

abbrev buffer : List ℕ
buffer = replicate state_length 0

abbrev knee : Timing
knee = timing (speeds_in base_levels) (tasks_in knee_plan)

-- the book at the start, with any list that is accepted
abbrev Angle : List ℕ → Type 0
Angle pairs = ((actual_book base_levels knee_plan pairs buffer []).task ≡ 1) × ((actual_book base_levels knee_plan pairs buffer []).closed ≡ [])

angle_runs : Angle []
unfolding need time_of worn lcm gcd more_urgent
angle_runs = (refl, refl)

angle_paired : Angle (1 ∷ 2 ∷ [])
unfolding need time_of worn lcm gcd more_urgent
angle_paired = (refl, refl)

paired_start : Started base_levels knee_plan (1 ∷ 2 ∷ []) buffer
unfolding need time_of worn lcm gcd more_urgent
paired_start = refl

none_closed : {closed : List Job} (j : Job) → closed ≡ [] → In j closed → ⊥
none_closed j e m = subst (In j) e m

pub earlier_needed : LaterClosed → ⊥
earlier_needed claim =
    none_closed (arrived_with knee (actual_book base_levels knee_plan (1 ∷ 2 ∷ []) buffer []) 2) angle_paired.1
    (claim base_levels knee_plan (1 ∷ 2 ∷ []) buffer [] paired_start (record { earlier = 2; later = 1 }) (inl refl) angle_paired.0)

-- whatever is to come before the angle
before_angle : (earlier : ℕ) → HeldAtStart earlier 1 → ⊥
before_angle earlier claim =
    none_closed (arrived_with knee (actual_book base_levels knee_plan [] buffer []) earlier) angle_runs.1
    (claim (record { earlier = earlier; later = 1 }) (inl refl) angle_runs.0)

-- the valve, of an equal period and a higher number; the gait, of a period that is no part of the angle's; and the angle itself
pub lower_needed : HeldAtStart 2 1 → ⊥
lower_needed = before_angle 2

pub multiple_needed : HeldAtStart 0 1 → ⊥
multiple_needed = before_angle 0

pub other_needed : HeldAtStart 1 1 → ⊥
other_needed = before_angle 1
