-- What is known of a task, a list of tasks and a block once its questions are answered yes.
-- Assumes nothing.
use Prim.Native.Nat.{ℕ, suc, ◌<◌, ◌≤◌}
use mathlib.Core.Path.{◌≡◌, refl}
use mathlib.Core.Bool.{Bool, true}
use mathlib.Core.List.{List}
use native.Mathlib.Omega.{arith}
use borrow.Author.Tests.{leb-true, le-leb, eqb-true, eq-eqb}
use lib.Dec.{leb, eqb}
use lib.ListN.{length, get_or, drop}
use Rattle.arith.specs.Choice.{both, every}
use Rattle.arith.specs.Bits.{unpacked}
use Rattle.arith.specs.Asking.{first_no, within}
use Rattle.arith.proofs.Tests.{both_left, both_right}
use Rattle.arith.proofs.ListLaws.{every_at, at_every}
use Rattle.arith.proofs.QuestionLaws.{within_high, within_low, within_true, Yes, yes_all, reply_to, replied}
use lib.Seq.{length-take-le}
use Rattle.plan.specs.declared.Task.{Task}
use Rattle.plan.specs.declared.Plan.{Plan}
use Rattle.plan.specs.Levels.{hyperperiod, nominal}
use Rattle.plan.specs.Blocks.{edition_in, count_in, tasks_in, block_length, closing_bits, no_task, tasks_of}
use Rattle.plan.specs.Questions.{in_range, range_question, addition_question, floor_loaded, floor_question, span_question, level_question, task_questions, judging, reading}
use Rattle.plan.proofs.BlockBits.{length-tasks_from}

-- a task in range
pub record InRange (t : Task) : Type 0 where
  pub period_low : 1 ≤ t.period
  pub period_high : t.period ≤ 65535
  pub worst_low : 1 ≤ t.worst
  pub worst_high : t.worst ≤ 1048575
  pub fixed_high : t.fixed ≤ 255

pub in_range_lem : (t : Task) → in_range t ≡ true → InRange t
in_range_lem t h =
    let period : Bool = within 1 65535 t.period in
    let worst : Bool = within 1 1048575 t.worst in
    let fixed : Bool = leb t.fixed 255 in
    let p : period ≡ true = both_left period (both worst fixed) h in
    let rest : both worst fixed ≡ true = both_right period (both worst fixed) h in
    let w : worst ≡ true = both_left worst fixed rest in
    record {
      period_low = within_low 1 65535 t.period p;
      period_high = within_high 1 65535 t.period p;
      worst_low = within_low 1 1048575 t.worst w;
      worst_high = within_high 1 1048575 t.worst w;
      fixed_high = leb-true t.fixed 255 (both_right worst fixed rest);
    }

pub range_at : (ts : List Task) (i : ℕ) → every in_range ts ≡ true → i < length ts → InRange (get_or ts i no_task)
range_at ts i h l = in_range_lem (get_or ts i no_task) (every_at in_range ts i no_task h l)

-- a floor that is one of so many levels is one of more
pub floor_at : (levels : ℕ) (ts : List Task) (i : ℕ) → every (floor_loaded levels) ts ≡ true → i < length ts → (get_or ts i no_task).floor < levels
floor_at levels ts i h l = leb-true (suc (get_or ts i no_task).floor) levels (every_at (floor_loaded levels) ts i no_task h l)

pub floors_among : (few many : ℕ) (ts : List Task) → few ≤ many → every (floor_loaded few) ts ≡ true → every (floor_loaded many) ts ≡ true
floors_among few many ts m h =
    at_every (floor_loaded many) ts no_task (λ i l. le-leb (suc (get_or ts i no_task).floor) many (omega (arith, floor_at few ts i h l)))

-- what each question asks: its yes as a fact, and back
module _ (ts : List Task) where
  pub span_told : (span_question ts).reply ≡ true → hyperperiod ts ≤ 1000000
  span_told h = leb-true (hyperperiod ts) 1000000 h

  pub span_asked : hyperperiod ts ≤ 1000000 → (span_question ts).reply ≡ true
  span_asked h = le-leb (hyperperiod ts) 1000000 h

module _ (speeds : List ℕ) (ts : List Task) where
  pub level_told : (level_question speeds ts).reply ≡ true → nominal speeds ts < length speeds
  level_told h = leb-true (suc (nominal speeds ts)) (length speeds) h

  pub level_asked : nominal speeds ts < length speeds → (level_question speeds ts).reply ≡ true
  level_asked h = le-leb (suc (nominal speeds ts)) (length speeds) h

-- tasks of which 6, 24, 7 and 8 are answered yes
pub record FineTasks (speeds : List ℕ) (ts : List Task) : Type 0 where
  pub ranges : every in_range ts ≡ true
  pub floors : every (floor_loaded (length speeds)) ts ≡ true
  pub span_most : hyperperiod ts ≤ 1000000
  pub admitted : nominal speeds ts < length speeds

-- from the answers to the facts, and back
tasks_fine :
    (speeds : List ℕ) (ts : List Task) →
    (range_question ts).reply ≡ true →
    (floor_question speeds ts).reply ≡ true →
    (span_question ts).reply ≡ true →
    (level_question speeds ts).reply ≡ true →
    FineTasks speeds ts
tasks_fine speeds ts ranges floors seven eight =
    record { ranges = ranges; floors = floors; span_most = span_told ts seven; admitted = level_told speeds ts eight }

fine_yes : (speeds : List ℕ) (ts : List Task) → FineTasks speeds ts → Yes (task_questions speeds ts)
fine_yes speeds ts f = (f.ranges, (f.floors, (span_asked ts f.span_most, (level_asked speeds ts f.admitted, tt))))

pub fine_tasks : (speeds : List ℕ) (ts : List Task) → first_no (task_questions speeds ts) ≡ 0 → FineTasks speeds ts
fine_tasks speeds ts h =
    let told : (n : ℕ) → reply_to n (task_questions speeds ts) ≡ true = replied (task_questions speeds ts) refl h in
    tasks_fine speeds ts (told 6) (told 24) (told 7) (told 8)

pub tasks_yes : (speeds : List ℕ) (ts : List Task) → FineTasks speeds ts → first_no (task_questions speeds ts) ≡ 0
tasks_yes speeds ts f = yes_all (task_questions speeds ts) (fine_yes speeds ts f)

-- a list of tasks that judging, or writing, answers with no refusal
pub record FineList (speeds : List ℕ) (count : ℕ) (ts : List Task) : Type 0 where
  pub count_low : 1 ≤ count
  pub count_high : count ≤ 16
  pub tasks : FineTasks speeds ts

pub fine_list :
    (speeds : List ℕ) (count : ℕ) (ts : List Task) →
    first_no (judging speeds count ts) ≡ 0 →
    FineList speeds count ts
fine_list speeds count ts h =
    let told : (n : ℕ) → reply_to n (judging speeds count ts) ≡ true = replied (judging speeds count ts) refl h in
    record {
      count_low = within_low 1 16 count (told 3);
      count_high = within_high 1 16 count (told 3);
      tasks = tasks_fine speeds ts (told 6) (told 24) (told 7) (told 8);
    }

pub list_yes :
    (speeds : List ℕ) (count : ℕ) (ts : List Task) →
    FineList speeds count ts →
    first_no (judging speeds count ts) ≡ 0
list_yes speeds count ts f =
    yes_all (judging speeds count ts) (within_true 1 16 count f.count_low f.count_high, fine_yes speeds ts f.tasks)

-- a block that reading answers with no refusal
pub record FineBlock (speeds block : List ℕ) : Type 0 where
  pub long : 2 ≤ length block
  pub edition_low : 1 ≤ edition_in block
  pub edition_high : edition_in block ≤ 2
  pub count_low : 1 ≤ count_in block
  pub count_high : count_in block ≤ 16
  pub size : length block ≡ block_length (edition_in block) (count_in block)
  pub closing : every (eqb 0) (closing_bits block) ≡ true
  pub tasks : FineTasks speeds (tasks_in block)
  pub additions : (addition_question (edition_in block) (tasks_in block)).reply ≡ true

pub fine_block : (speeds block : List ℕ) → first_no (reading speeds block) ≡ 0 → FineBlock speeds block
fine_block speeds block h =
    let told : (n : ℕ) → reply_to n (reading speeds block) ≡ true = replied (reading speeds block) refl h in
    record {
      long = leb-true 2 (length block) (told 1);
      edition_low = within_low 1 2 (edition_in block) (told 2);
      edition_high = within_high 1 2 (edition_in block) (told 2);
      count_low = within_low 1 16 (count_in block) (told 3);
      count_high = within_high 1 16 (count_in block) (told 3);
      size = eqb-true (length block) (block_length (edition_in block) (count_in block)) (told 4);
      closing = told 5;
      tasks = tasks_fine speeds (tasks_in block) (told 6) (told 24) (told 7) (told 8);
      additions = told 21;
    }

pub block_yes : (speeds block : List ℕ) → FineBlock speeds block → first_no (reading speeds block) ≡ 0
block_yes speeds block f =
    yes_all (reading speeds block) (
      le-leb 2 (length block) f.long,
      (
        within_true 1 2 (edition_in block) f.edition_low f.edition_high,
        (
          within_true 1 16 (count_in block) f.count_low f.count_high,
          (
            eq-eqb (length block) (block_length (edition_in block) (count_in block)) f.size,
            (f.closing, (f.tasks.ranges, (f.additions, (fine_yes speeds (tasks_in block) f.tasks).1))),
          ),
        ),
      ),
    )

-- how many tasks it has
pub length-tasks_in : (block : List ℕ) → length (tasks_in block) ≡ count_in block
length-tasks_in block = length-tasks_from (edition_in block) (count_in block) (drop 9 (unpacked block))

-- they are a list that judging accepts
pub block_list : (speeds block : List ℕ) → FineBlock speeds block → FineList speeds (length (tasks_in block)) (tasks_in block)
block_list speeds block f =
    let n : length (tasks_in block) ≡ count_in block = length-tasks_in block in
    record { count_low = omega (arith, f.count_low); count_high = omega (arith, f.count_high); tasks = f.tasks }

-- how many tasks a plan has
pub length-tasks_of : (p : Plan) → length p.tasks ≡ 16 → p.count ≤ 16 → length (tasks_of p) ≡ p.count
length-tasks_of p size most = length-take-le p.count p.tasks (omega arith)
