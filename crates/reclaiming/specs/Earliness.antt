-- The paper's earliness, of what is seen at a moment: "the amount of additional CPU time the dispatched task can safely use to slow down its
-- execution". No byte is read here.
-- Assumes nothing.
use Rattle.std.specs.Prelude.{ℕ, ◌+◌, ◌-◌, List}
use Rattle.plan.specs.declared.Task.{Task}
use Rattle.plan.specs.Times.{time_of}
use Rattle.plan.specs.Levels.{speed_of, nominal}
use Rattle.reclaiming.specs.Allotments.{timing}
use Rattle.reclaiming.specs.Orders.{View, next_arrival, plain_allowance, is_lone, with_gap}

module _ (speeds : List ℕ) (ts : List Task) (v : View) (x : ℕ) where
  -- w: the time left of task x's job at the nominal level
  abbrev pub time_at_nominal : ℕ
  time_at_nominal = time_of (speed_of speeds (nominal speeds ts)) (v.rest x)

  -- Proposition 4: the plain ticks left of all jobs at least as urgent as task x's, less its own time left at nominal
  abbrev pub earliness : ℕ
  earliness = plain_allowance (timing speeds ts) v x - time_at_nominal

  -- rules 5.0 to 5.2: its time at nominal and the full earliness; rule 5.3: the ticks to the next arrival, if the job is alone and these are more
  abbrev pub full_time : ℕ
  full_time = with_gap (is_lone (timing speeds ts) v x) (time_at_nominal + earliness) (next_arrival (timing speeds ts) v.clock)
