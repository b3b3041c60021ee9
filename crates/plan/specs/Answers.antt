-- 01, "Blocks" and "Questions put to every call": what the calls on plans return and leave in a lent buffer.
-- Assumes nothing.
use Rattle.std.specs.Prelude.{ℕ, zero, suc, List, [], ◌∷◌, ◌++◌, length, drop}
use Rattle.arith.specs.Asking.{Answer, values, refusal, first_no}
use Rattle.plan.specs.declared.Task.{Task}
use Rattle.plan.specs.declared.Plan.{Plan}
use Rattle.plan.specs.declared.Judged.{Judged}
use Rattle.plan.specs.declared.Admission.{Admission}
use Rattle.plan.specs.declared.Refused.{Refused}
use Rattle.plan.specs.Levels.{hyperperiod, nominal}
use Rattle.plan.specs.LevelBlocks.{loading, speeds_in}
use Rattle.plan.specs.Blocks.{plan_of, tasks_of, tasks_in, plan_block}
use Rattle.plan.specs.Questions.{judging, reading, writing, room_question}
use Rattle.std.specs.declared.result.Result.{Result}
use Rattle.std.specs.declared.result.Result.TheVariants.{Ok, Err}
use Rattle.plan.specs.Counted.{Counted, refused, counted_by}

-- what judging and reading answer: the nominal level and the hyperperiod, or a refusal's number
abbrev pub Verdict : Type 0
Verdict = Result Admission Refused

abbrev pub accepted_with : ℕ → ℕ → Verdict
accepted_with level span = Ok (record { nominal = level; hyperperiod = span })

-- 01's number and values of each case: "Reading and judging return the plan, its nominal level and hyperperiod", the plan beside them
abbrev pub verdict_answer : Verdict → Answer
verdict_answer (Ok a) = values (a.nominal ∷ a.hyperperiod ∷ [])
verdict_answer (Err e) = refusal e.number

-- 01: "Reading and judging return the plan, its nominal level and hyperperiod"; at a refusal its number "is all that is returned"
abbrev pub answered : ℕ → List ℕ → List Task → Verdict
answered zero speeds ts = accepted_with (nominal speeds ts) (hyperperiod ts)
answered (suc n) speeds ts = refused (suc n)

-- the plan "that stands beside a refusal is zero throughout"
abbrev pub beside : ℕ → List Task → Plan
beside zero ts = plan_of ts
beside (suc n) ts = plan_of []

abbrev pub judged_by : ℕ → List ℕ → List Task → Judged
judged_by n speeds ts = record { verdict = answered n speeds ts; plan = beside n ts }

-- a refusal: its number "is all that is returned"
abbrev pub refused_with : ℕ → Judged
refused_with n = record { verdict = refused n; plan = plan_of [] }

-- 02: "Every call that takes a plan takes this block before it": a level block, and its questions "before all else"

-- a list of tasks judged
abbrev pub judged_list : List ℕ → ℕ → List Task → Judged
judged_list levels count ts = judged_by (first_no (loading levels ++ judging (speeds_in levels) count ts)) (speeds_in levels) ts

-- a plan judged
abbrev pub judged_plan : List ℕ → Plan → Judged
judged_plan levels p = judged_list levels p.count (tasks_of p)

-- a block read
abbrev pub read_block : List ℕ → List ℕ → Judged
read_block levels block = judged_by (first_no (loading levels ++ reading (speeds_in levels) block)) (speeds_in levels) (tasks_in block)

-- the number that so much room for so many bytes is answered with: 9, or 0
abbrev pub room_number : ℕ → ℕ → ℕ
room_number wanted room = first_no (room_question wanted room ∷ [])

-- the number that writing a plan into so much room is answered with
abbrev pub write_number : List ℕ → Plan → ℕ → ℕ
write_number levels p room = first_no (loading levels ++ writing (speeds_in levels) p room)

-- 01: "writing and showing [return] the count of bytes written"
abbrev pub written_by : ℕ → List ℕ → Counted
written_by n bytes = counted_by n (length bytes)

-- 01: "Bytes past those written stay untouched"; at a refusal "every lent buffer and state stays as found"
abbrev pub stored_by : ℕ → List ℕ → List ℕ → List ℕ
stored_by zero bytes buffer = bytes ++ drop (length bytes) buffer
stored_by (suc n) bytes buffer = buffer

abbrev pub write_plan : List ℕ → Plan → ℕ → Counted
write_plan levels p room = written_by (write_number levels p room) (plan_block (tasks_of p))

abbrev pub write_buffer : List ℕ → Plan → List ℕ → List ℕ
write_buffer levels p buffer = stored_by (write_number levels p (length buffer)) (plan_block (tasks_of p)) buffer

-- a block read, then written again: reading's questions, then 9
abbrev pub copy_number : List ℕ → List ℕ → ℕ → ℕ
copy_number levels block room = first_no (loading levels ++ (reading (speeds_in levels) block ++ (room_question (length block) room ∷ [])))
