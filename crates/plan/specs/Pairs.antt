-- 02, No. 5, "Angle before valve": the list of pairs that comes with a plan, byte by byte, its question, and what asking it answers.
-- Assumes nothing.
use Rattle.std.specs.Prelude.{ℕ, ◌%◌, Bool, true, List, [], ◌∷◌, ◌++◌, leb, ltb, eqb, length, get_or}
use Rattle.arith.specs.Choice.{pick, both, every}
use Rattle.arith.specs.Asking.{Question, ask, first_no}
use Rattle.plan.specs.declared.Task.{Task}
use Rattle.plan.specs.LevelBlocks.{loading, speeds_in}
use Rattle.plan.specs.Blocks.{no_task, tasks_in}
use Rattle.plan.specs.Questions.{reading}
use Rattle.plan.specs.Counted.{Counted, counted_by}

-- 02: "one task reads what another wrote": two task numbers
pub record Pair : Type 0 where
  pub earlier : ℕ
  pub later : ℕ

-- 02: "A list of up to 16 pairs (earlier, later), one byte a number"; an odd byte is no pair
abbrev pub pairs_in : List ℕ → List Pair
pairs_in [] = []
pairs_in (x ∷ []) = []
pairs_in (x ∷ y ∷ bytes) = record { earlier = x; later = y } ∷ pairs_in bytes

-- the period of the task of a number
abbrev pub period_of : List Task → ℕ → ℕ
period_of ts i = (get_or ts i no_task).period

-- 02: "the later task's period is a multiple of the earlier's, and where the periods are equal the earlier has the lower number"
abbrev pub periods_good : Pair → ℕ → ℕ → Bool
periods_good p earlier later = both (eqb (later % earlier) 0) (pick (eqb earlier later) (ltb p.earlier p.later) true)

-- 02: "A pair is good if both task numbers exist", and their periods are as above
abbrev pub good_pair : List Task → Pair → Bool
good_pair ts p =
    both (both (ltb p.earlier (length ts)) (ltb p.later (length ts)))
    (periods_good p (period_of ts p.earlier) (period_of ts p.later))

-- a list of at most 16 pairs, with no odd byte, of which each is good
abbrev pub pairs_good : List Task → List ℕ → Bool
pairs_good ts pairs = both (leb (length pairs) 32) (both (eqb (length pairs % 2) 0) (every (good_pair ts) (pairs_in pairs)))

-- 02: "22 list too long, an odd byte or a pair not good"
abbrev pub pairs_question : List Task → List ℕ → Question
pairs_question ts pairs = ask 22 (pairs_good ts pairs)

-- those put to a plan block that comes with its pairs: reading's, of which 8 is the last, and 22, "put after 8"
abbrev pub paired_reading : List ℕ → List ℕ → List ℕ → List Question
paired_reading speeds block pairs = reading speeds block ++ (pairs_question (tasks_in block) pairs ∷ [])

-- whether a list is good for a plan: the questions of starting up to 22, and the count of its pairs
abbrev pub paired_by : ℕ → List Pair → Counted
paired_by n ps = counted_by n (length ps)

abbrev pub pair_number : List ℕ → List ℕ → List ℕ → ℕ
pair_number levels block pairs = first_no (loading levels ++ paired_reading (speeds_in levels) block pairs)

abbrev pub ask_pairs : List ℕ → List ℕ → List ℕ → Counted
ask_pairs levels block pairs = paired_by (pair_number levels block pairs) (pairs_in pairs)
