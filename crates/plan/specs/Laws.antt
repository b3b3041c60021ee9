-- What is promised of plans as a whole, each as a type that a proof has. What is asked of a level block is that the call accepted it.
-- Assumes nothing.
use Rattle.std.specs.Prelude.{ℕ, ◌-◌, ◌*◌, ◌<◌, ◌≤◌, ◌≡◌, true, List, ◌↔◌, length, get_or}
use Rattle.std.specs.Int.{◌∣◌}
use Rattle.arith.specs.Need.{need}
use Rattle.arith.specs.Asking.{is_accepted, first_no}
use Rattle.plan.specs.declared.Task.{Task}
use Rattle.plan.specs.declared.Plan.{Plan}
use Rattle.plan.specs.declared.Rest.{Rest}
use Rattle.plan.specs.Times.{time_of, worn}
use Rattle.plan.specs.Levels.{speed_of, hyperperiod, admits, nominal}
use Rattle.plan.specs.LevelBlocks.{level_block, speeds_in, table_good, loading}
use Rattle.plan.specs.Blocks.{no_task, tasks_of, plan_block}
use Rattle.plan.specs.Answers.{verdict_answer, judged_plan, read_block}

-- a list of bytes
abbrev pub Bytes : List ℕ → Type 0
Bytes s = (k : ℕ) → k < length s → get_or s k 0 < 256

-- demand 2: "a written plan reads back as the same plan"
abbrev pub WrittenReadsBack : Type 0
WrittenReadsBack =
    (levels : List ℕ) (p : Plan) →
    length p.tasks ≡ 16 →
    is_accepted (verdict_answer (judged_plan levels p).verdict) ≡ true →
    read_block levels (plan_block (tasks_of p)) ≡ judged_plan levels p

-- demand 2: "and an accepted block written again has the same bytes"
abbrev pub AcceptedWritesBack : Type 0
AcceptedWritesBack =
    (levels block : List ℕ) →
    Bytes block →
    is_accepted (verdict_answer (read_block levels block).verdict) ≡ true →
    plan_block (tasks_of (read_block levels block).plan) ≡ block

-- 02, No. 1: every table of 1 to 8 speeds in their range that rise has a block, which is accepted and reads as it; so what holds of any
-- accepted level block holds of any such table
abbrev pub TableLoads : Type 0
TableLoads =
    (speeds : List ℕ) →
    table_good speeds ≡ true →
    (first_no (loading (level_block speeds)) ≡ 0) × (speeds_in (level_block speeds) ≡ speeds)

-- 02, No. 2: "Edition 1 means no fixed ticks.": without them a job's time, and what d ticks leave of it, are what 01 says; all else is
-- said of these two
abbrev pub PlainTimes : Type 0
PlainTimes =
    (speed d : ℕ) (r : Rest) →
    r.fixed ≡ 0 →
    (time_of speed r ≡ need speed r.work)
    × ((worn speed d r).fixed ≡ 0)
    × ((worn speed d r).work ≡ r.work - d * speed)

-- a level admits exactly from the nominal one up
abbrev pub AdmitsFromNominal : List ℕ → Type 0
AdmitsFromNominal speeds =
    (ts : List Task) (level : ℕ) →
    level < length speeds →
    (admits ts (speed_of speeds level) ≡ true) ↔ (nominal speeds ts ≤ level)

-- the hyperperiod is a multiple of every period, and every common multiple is a multiple of it
abbrev pub HyperperiodIsLeast : Type 0
HyperperiodIsLeast =
    (ts : List Task) →
    ((i : ℕ) → i < length ts → 0 < (get_or ts i no_task).period) →
    ((i : ℕ) → i < length ts → (get_or ts i no_task).period ∣ hyperperiod ts)
    × ((m : ℕ) → ((i : ℕ) → i < length ts → (get_or ts i no_task).period ∣ m) → hyperperiod ts ∣ m)
