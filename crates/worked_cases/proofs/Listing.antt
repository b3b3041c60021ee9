-- 01, "The bench program": its example, computed from the definitions. 02, No. 2: a run in which fixed ticks are interrupted. No. 4: one in
-- which a lone job goes on past its plain finish.
-- Assumes nothing.
use mathlib.Core.Path.{◌≡◌, refl}
use mathlib.Core.Bool.{true}
use mathlib.Core.List.{[], ◌∷◌}
use Rattle.arith.specs.Need.{need}
use Rattle.arith.specs.Divisor.{gcd, lcm}
use Rattle.plan.specs.Times.{time_of, worn}
use Rattle.plan.specs.LevelBlocks.{speeds_in}
use Rattle.plan.specs.Levels.{base_speeds}
use Rattle.plan.specs.Blocks.{tasks_in}
use Rattle.plan.specs.Answers.{read_block}
use Rattle.schedule.specs.PlainSchedule.{more_urgent, opened}
use Rattle.reclaiming.specs.Allotments.{timing}
use Rattle.reclaiming.specs.Replies.{is_order}
use Rattle.reclaiming.specs.Books.{opened_book}
use Rattle.reclaiming.specs.Ideal.{ideal_first}
use Rattle.reclaiming.specs.StateBlock.{state_length}
use Rattle.reclaiming.specs.Calls.{start_reply}
use Rattle.worked_cases.specs.Cases.{base_levels, bench_tasks, bench_block, bench_passes, bench_judged, bench_lines, listed_lines, ideal_lines, earliness_along, edge_passes, edge_lines}
use Rattle.worked_cases.specs.FixedCases.{angle_plan, angle_lines, wanted_lines}
use Rattle.worked_cases.specs.FloorCases.{valve_plan, valve_passes, valve_lines, floored_lines}
use Rattle.worked_cases.specs.LoneCases.{two_levels, lone_plan, lone_passes, lone_lines, gap_lines}

pub bench_plan : read_block base_levels bench_block ≡ bench_judged
unfolding need time_of worn lcm gcd more_urgent
bench_plan = refl

pub bench_listing : bench_lines ≡ listed_lines
unfolding need time_of worn lcm gcd more_urgent
bench_listing = refl

-- the books alone give it too, and the refusals
pub ideal_listing : ideal_lines base_speeds bench_tasks bench_passes ≡ listed_lines
unfolding need time_of worn lcm gcd more_urgent
ideal_listing = refl

pub ideal_refusals : ideal_lines base_speeds bench_tasks edge_passes ≡ edge_lines
unfolding need time_of worn lcm gcd more_urgent
ideal_refusals = refl

-- the example is the paper's, of Figure 1: at 1 task 0's 3 unused ticks are task 1's earliness; at 10 task 2 has just finished, and none of its 4
-- is lent to task 0, whose deadline is 20; at 20 the deadline is 30 for both, and the 2 that are left are
pub bench_earliness :
    earliness_along base_speeds bench_tasks (opened_book bench_tasks (ideal_first base_speeds bench_tasks)) (opened (timing base_speeds bench_tasks)) bench_passes
    ≡ 3 ∷ 0 ∷ 0 ∷ 0 ∷ 0 ∷ 2 ∷ []
unfolding need time_of worn lcm gcd more_urgent
bench_earliness = refl

-- the hypothesis of demand 3 holds of it
pub bench_started_lem : is_order (start_reply base_levels bench_block [] state_length) ≡ true
unfolding need time_of worn lcm gcd more_urgent
bench_started_lem = refl

pub angle_listing : angle_lines ≡ wanted_lines
unfolding need time_of worn lcm gcd more_urgent
angle_listing = refl

pub angle_started : is_order (start_reply base_levels angle_plan [] state_length) ≡ true
unfolding need time_of worn lcm gcd more_urgent
angle_started = refl

pub lone_listing : lone_lines ≡ gap_lines
unfolding need time_of worn lcm gcd more_urgent
lone_listing = refl

pub ideal_lone : ideal_lines (speeds_in two_levels) (tasks_in lone_plan) lone_passes ≡ gap_lines
unfolding need time_of worn lcm gcd more_urgent
ideal_lone = refl

pub lone_started : is_order (start_reply two_levels lone_plan [] state_length) ≡ true
unfolding need time_of worn lcm gcd more_urgent
lone_started = refl

pub valve_listing : valve_lines ≡ floored_lines
unfolding need time_of worn lcm gcd more_urgent
valve_listing = refl

pub ideal_valve : ideal_lines base_speeds (tasks_in valve_plan) valve_passes ≡ floored_lines
unfolding need time_of worn lcm gcd more_urgent
ideal_valve = refl

pub valve_started : is_order (start_reply base_levels valve_plan [] state_length) ≡ true
unfolding need time_of worn lcm gcd more_urgent
valve_started = refl
