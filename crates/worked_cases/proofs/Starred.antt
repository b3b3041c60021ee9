-- 01, "On each side of the edge": every starred case of the table holds. 02, No. 1, 2, 4, 5, 6 and 8: so does every case of level
-- blocks, of fixed ticks, of lone jobs, of pairs, of totals and of floors.
-- Assumes nothing.
use mathlib.Core.Path.{◌≡◌, refl}
use mathlib.Core.Bool.{true}
use mathlib.Core.List.{List}
use Rattle.arith.specs.Need.{need}
use Rattle.arith.specs.Divisor.{gcd, lcm}
use Rattle.plan.specs.Times.{time_of, worn}
use Rattle.schedule.specs.PlainSchedule.{more_urgent}
use Rattle.schedule.specs.Feasibility.{In}
use Rattle.schedule.proofs.Members.{every_in}
use Rattle.worked_cases.specs.Cases.{Case, starred, boards, matches, agrees}
use Rattle.worked_cases.specs.FixedCases.{conversions}
use Rattle.worked_cases.specs.LoneCases.{gaps}
use Rattle.worked_cases.specs.PairCases.{lists, starts}
use Rattle.worked_cases.specs.TotalCases.{totals}
use Rattle.worked_cases.specs.FloorCases.{floors}
use Rattle.reclaiming.proofs.StateCodec.{same_bytes_lem}

-- the table's test, computed
starred_agree : agrees starred ≡ true
unfolding need time_of worn lcm gcd more_urgent
starred_agree = refl

boards_agree : agrees boards ≡ true
unfolding need time_of worn lcm gcd more_urgent
boards_agree = refl

conversions_agree : agrees conversions ≡ true
unfolding need time_of worn lcm gcd more_urgent
conversions_agree = refl

gaps_agree : agrees gaps ≡ true
unfolding need time_of worn lcm gcd more_urgent
gaps_agree = refl

lists_agree : agrees lists ≡ true
unfolding need time_of worn lcm gcd more_urgent
lists_agree = refl

starts_agree : agrees starts ≡ true
unfolding need time_of worn lcm gcd more_urgent
starts_agree = refl

totals_agree : agrees totals ≡ true
unfolding need time_of worn lcm gcd more_urgent
totals_agree = refl

floors_agree : agrees floors ≡ true
unfolding need time_of worn lcm gcd more_urgent
floors_agree = refl

-- so each of its rows holds
row_holds : (cases : List Case) → agrees cases ≡ true → (c : Case) → In c cases → c.found ≡ c.wanted
row_holds cases h c m = same_bytes_lem c.found c.wanted (every_in matches cases h c m)

pub starred_cases : (c : Case) → In c starred → c.found ≡ c.wanted
starred_cases = row_holds starred starred_agree

pub board_cases : (c : Case) → In c boards → c.found ≡ c.wanted
board_cases = row_holds boards boards_agree

pub conversion_cases : (c : Case) → In c conversions → c.found ≡ c.wanted
conversion_cases = row_holds conversions conversions_agree

pub gap_cases : (c : Case) → In c gaps → c.found ≡ c.wanted
gap_cases = row_holds gaps gaps_agree

pub list_cases : (c : Case) → In c lists → c.found ≡ c.wanted
list_cases = row_holds lists lists_agree

pub start_cases : (c : Case) → In c starts → c.found ≡ c.wanted
start_cases = row_holds starts starts_agree

pub total_cases : (c : Case) → In c totals → c.found ≡ c.wanted
total_cases = row_holds totals totals_agree

pub floor_cases : (c : Case) → In c floors → c.found ≡ c.wanted
floor_cases = row_holds floors floors_agree
