-- 01, "Blocks": the plan block, bit by bit, and the plan as a value.
-- Assumes nothing.
use Rattle.std.specs.Prelude.{ℕ, zero, suc, ◌+◌, ◌*◌, Bool, List, [], ◌∷◌, ◌++◌, eqb, length, get_or, take, drop}
use Rattle.arith.specs.Choice.{pick, both, every}
use Rattle.arith.specs.Need.{need}
use Rattle.arith.specs.Digits.{number, digits}
use Rattle.arith.specs.Bits.{fields_bits, fields_from, width_of, unpacked, packed}
use Rattle.arith.specs.Arrays.{padded}
use Rattle.plan.specs.declared.Task.{Task}
use Rattle.plan.specs.declared.Plan.{Plan}

-- the fields of a task: 01: "then for each task 16 bits of period and 20 of worst case"; 02, No. 2: "Plan edition 2 adds, after each
-- worst case, 8 bits of fixed ticks (0 to 255) and 3 spare zero bits"; No. 8: "A task gets a floor, in the three spare bits of edition 2"; by
-- whether the edition is 2
abbrev pub widths_by : Bool → List ℕ
widths_by second = 16 ∷ 20 ∷ pick second (8 ∷ 3 ∷ []) []

abbrev pub task_widths : ℕ → List ℕ
task_widths edition = widths_by (eqb edition 2)

-- the numbers in them, and the task that such numbers are: "Edition 1 means no fixed ticks", and no floor
abbrev pub task_numbers : Task → List ℕ
task_numbers t = t.period ∷ t.worst ∷ t.fixed ∷ t.floor ∷ []

abbrev pub task_of : List ℕ → Task
task_of numbers = record {
  period = get_or numbers 0 0;
  worst = get_or numbers 1 0;
  fixed = get_or numbers 2 0;
  floor = get_or numbers 3 0;
}

abbrev pub task_bits : ℕ → Task → List ℕ
task_bits edition t = fields_bits (task_widths edition) (task_numbers t)

abbrev pub tasks_bits : ℕ → List Task → List ℕ
tasks_bits edition [] = []
tasks_bits edition (t ∷ ts) = task_bits edition t ++ tasks_bits edition ts

-- 01: "A plan block is 4 bits of edition [..], 5 bits of count", then the tasks
abbrev pub plan_bits : ℕ → List Task → List ℕ
plan_bits edition ts = digits 2 4 edition ++ (digits 2 5 (length ts) ++ tasks_bits edition ts)

-- the edition that tasks are written in, by whether they add nothing: 02: "The writer uses edition 1 where all are zero."; No. 8: "A floor
-- counts as an addition for 21 and for the writer's choice of edition."
abbrev pub adds_nothing : Task → Bool
adds_nothing t = both (eqb t.fixed 0) (eqb t.floor 0)

abbrev pub edition_by : Bool → ℕ
edition_by plain = pick plain 1 2

abbrev pub edition_of : List Task → ℕ
edition_of ts = edition_by (every adds_nothing ts)

-- "then zero bits to a whole byte"
abbrev pub plan_block : List Task → List ℕ
plan_block ts = packed (plan_bits (edition_of ts) ts)

-- how many bits a task takes, a plan of so many tasks, and how many bytes: "6 bytes for one task, 74 for sixteen"; in
-- edition 2, 7 and 96
abbrev pub task_width : ℕ → ℕ
task_width edition = width_of (task_widths edition)

abbrev pub bit_count : ℕ → ℕ → ℕ
bit_count edition count = 9 + task_width edition * count

abbrev pub block_length : ℕ → ℕ → ℕ
block_length edition count = need 8 (bit_count edition count)

-- the same fields read off a block, by the edition that it names
abbrev pub edition_in : List ℕ → ℕ
edition_in block = number 2 4 (unpacked block)

abbrev pub count_in : List ℕ → ℕ
count_in block = number 2 5 (drop 4 (unpacked block))

abbrev pub task_from : ℕ → List ℕ → Task
task_from edition bits = task_of (fields_from (task_widths edition) bits)

abbrev pub tasks_from : ℕ → ℕ → List ℕ → List Task
tasks_from edition zero bits = []
tasks_from edition (suc n) bits = task_from edition bits ∷ tasks_from edition n (drop (task_width edition) bits)

abbrev pub tasks_in : List ℕ → List Task
tasks_in block = tasks_from (edition_in block) (count_in block) (drop 9 (unpacked block))

abbrev pub closing_bits : List ℕ → List ℕ
closing_bits block = drop (bit_count (edition_in block) (count_in block)) (unpacked block)

-- 01: "A plan is its count and its tasks"
abbrev pub tasks_of : Plan → List Task
tasks_of p = take p.count p.tasks

-- "one returned has zeros past its count"
abbrev pub no_task : Task
no_task = record { period = 0; worst = 0; fixed = 0; floor = 0 }

abbrev pub plan_of : List Task → Plan
plan_of ts = record { count = length ts; tasks = padded 16 no_task ts }
