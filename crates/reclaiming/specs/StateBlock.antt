-- 01, "Blocks": the state, and its block; 02, No. 1 and No. 6: it grows to 217 bytes, then to 221.
-- Assumes nothing.
use Rattle.std.specs.Prelude.{ℕ, zero, suc, ◌+◌, ◌-◌, ◌*◌, ◌/◌, ◌%◌, Bool, true, false, List, [], ◌∷◌, ◌++◌, map, eqb, length, get_or, drop, replicate}
use Rattle.arith.specs.Choice.{both}
use Rattle.arith.specs.Sum.{sum_of}
use Rattle.arith.specs.Ranges.{list_to}
use Rattle.plan.specs.declared.Task.{Task}
use Rattle.plan.specs.declared.Rest.{Rest}
use Rattle.reclaiming.specs.declared.Entry.{Entry}
use Rattle.reclaiming.specs.Fields.{Field, field, zeros, fields_bytes, fields_length, read_field}

-- the clock, the order that stands (its task, or 255 for idle; its level, or 0 for idle), an entry for each task, the speeds of the levels,
-- and the total of the plain ticks left
pub record State : Type 0 where
  pub clock : ℕ
  pub task : ℕ
  pub level : ℕ
  pub entries : List Entry
  pub speeds : List ℕ
  pub total : ℕ

abbrev pub no_entry : Entry
no_entry = record { period = 0; floor = 0; worst = 0; work = 0; remaining = 0; fixed = 0; unspent = 0 }

-- task i's floor; of its job: the work left, "0 once finished", and the plain ticks left; an entry's fixed ticks left are called unspent
abbrev pub floor_of : State → ℕ → ℕ
floor_of s i = (get_or s.entries i no_entry).floor

abbrev pub work_of : State → ℕ → ℕ
work_of s i = (get_or s.entries i no_entry).work

abbrev pub remaining_of : State → ℕ → ℕ
remaining_of s i = (get_or s.entries i no_entry).remaining

-- 02, No. 6: "how many plain ticks are queued in all", "the full sum"
abbrev pub queued_in : List Entry → ℕ
queued_in es = sum_of (λ (e : Entry). e.remaining) es

-- what is left of task i's job, by which its time is told
abbrev pub rest_in : Entry → Rest
rest_in e = record { fixed = e.unspent; work = e.work }

abbrev pub rest_of : State → ℕ → Rest
rest_of s i = rest_in (get_or s.entries i no_entry)

-- the plan in a state
abbrev pub task_of : Entry → Task
task_of e = record { period = e.period; worst = e.worst; fixed = e.fixed; floor = e.floor }

abbrev pub plan_in : State → List Task
plan_in s = map task_of s.entries

-- an entry: its task, what is left of its job, and the plain ticks left
abbrev pub entry_with : Task → Rest → ℕ → Entry
entry_with t r remaining = record {
  period = t.period;
  floor = t.floor;
  worst = t.worst;
  work = r.work;
  remaining = remaining;
  fixed = t.fixed;
  unspent = r.fixed;
}

-- 01: "clock (4 bytes), task of the order (1; 255 for idle), level (1; 0 for idle), count (1), a zero byte"
abbrev pub head_fields : List (Field State)
head_fields =
    field 4 (λ s. s.clock)
    ∷ field 1 (λ s. s.task)
    ∷ field 1 (λ s. s.level)
    ∷ field 1 (λ s. length s.entries)
    ∷ zeros 1
    ∷ []

-- their places in this list
abbrev pub clock_field : ℕ
clock_field = 0

abbrev pub task_field : ℕ
task_field = 1

abbrev pub level_field : ℕ
level_field = 2

abbrev pub count_field : ℕ
count_field = 3

abbrev pub zero_field : ℕ
zero_field = 4

-- 01: "sixteen entries of 12 bytes: period (2), worst case (3), work left (3; 0 once finished), plain ticks left (2), two zero bytes"; 02, No. 2:
-- "the two zero bytes become fixed ticks and fixed ticks left"; No. 8: a floor "in the top four bits of the worst case's three bytes"
abbrev pub places : ℕ
places = 16

-- the number in those three bytes, made of both, and the two in it
abbrev pub floor_and_worst : ℕ → ℕ → ℕ
floor_and_worst floor worst = 1048576 * floor + worst

abbrev pub floor_part : ℕ → ℕ
floor_part n = n / 1048576

abbrev pub worst_part : ℕ → ℕ
worst_part n = n % 1048576

abbrev pub entry_fields : List (Field Entry)
entry_fields =
    field 2 (λ e. e.period)
    ∷ field 3 (λ e. floor_and_worst e.floor e.worst)
    ∷ field 3 (λ e. e.work)
    ∷ field 2 (λ e. e.remaining)
    ∷ field 1 (λ e. e.fixed)
    ∷ field 1 (λ e. e.unspent)
    ∷ []

abbrev pub period_field : ℕ
period_field = 0

abbrev pub worst_field : ℕ
worst_field = 1

abbrev pub work_field : ℕ
work_field = 2

abbrev pub remaining_field : ℕ
remaining_field = 3

abbrev pub fixed_field : ℕ
fixed_field = 4

abbrev pub unspent_field : ℕ
unspent_field = 5

-- 02, No. 1: "at its end the count and eight speeds of two bytes, unused ones zero"
abbrev pub level_places : ℕ
level_places = 8

abbrev pub speed_row : ℕ → Field State
speed_row k = field 2 (λ s. get_or s.speeds k 0)

abbrev pub tail_fields : List (Field State)
tail_fields = field 1 (λ s. length s.speeds) ∷ list_to level_places speed_row

abbrev pub levels_field : ℕ
levels_field = 0

abbrev pub speed_field : ℕ → ℕ
speed_field k = suc k

-- 02, No. 6: "Keep the total in the state block, as four bytes at its end"
abbrev pub end_fields : List (Field State)
end_fields = field 4 (λ s. s.total) ∷ []

abbrev pub total_field : ℕ
total_field = 0

-- 8 bytes, 12 for an entry, and "221 bytes" in all
abbrev pub head_length : ℕ
head_length = fields_length head_fields

abbrev pub entry_length : ℕ
entry_length = fields_length entry_fields

abbrev pub tail_at : ℕ
tail_at = head_length + entry_length * places

abbrev pub total_at : ℕ
total_at = tail_at + fields_length tail_fields

abbrev pub state_length : ℕ
state_length = total_at + fields_length end_fields

abbrev pub entry_bytes : Entry → List ℕ
entry_bytes e = fields_bytes entry_fields e

abbrev pub entries_bytes : List Entry → List ℕ
entries_bytes [] = []
entries_bytes (e ∷ es) = entry_bytes e ++ entries_bytes es

-- 01: "Entries past the count are zero."
abbrev pub unused_bytes : List Entry → List ℕ
unused_bytes es = replicate (entry_length * (places - length es)) 0

-- what stands behind the places
abbrev pub tail_bytes : State → List ℕ
tail_bytes s = fields_bytes tail_fields s ++ fields_bytes end_fields s

abbrev pub encode : State → List ℕ
encode s = fields_bytes head_fields s ++ (entries_bytes s.entries ++ (unused_bytes s.entries ++ tail_bytes s))

-- the same fields read off a block
abbrev pub entry_from : List ℕ → Entry
entry_from bytes = record {
  period = read_field entry_fields period_field bytes;
  floor = floor_part (read_field entry_fields worst_field bytes);
  worst = worst_part (read_field entry_fields worst_field bytes);
  work = read_field entry_fields work_field bytes;
  remaining = read_field entry_fields remaining_field bytes;
  fixed = read_field entry_fields fixed_field bytes;
  unspent = read_field entry_fields unspent_field bytes;
}

abbrev pub entries_from : ℕ → List ℕ → List Entry
entries_from zero bytes = []
entries_from (suc n) bytes = entry_from bytes ∷ entries_from n (drop entry_length bytes)

abbrev pub state_count : List ℕ → ℕ
state_count bytes = read_field head_fields count_field bytes

abbrev pub level_count : List ℕ → ℕ
level_count bytes = read_field tail_fields levels_field (drop tail_at bytes)

abbrev pub speed_in : List ℕ → ℕ → ℕ
speed_in bytes k = read_field tail_fields (speed_field k) (drop tail_at bytes)

abbrev pub total_in : List ℕ → ℕ
total_in bytes = read_field end_fields total_field (drop total_at bytes)

abbrev pub decode : List ℕ → State
decode bytes = record {
  clock = read_field head_fields clock_field bytes;
  task = read_field head_fields task_field bytes;
  level = read_field head_fields level_field bytes;
  entries = entries_from (state_count bytes) (drop head_length bytes);
  speeds = list_to (level_count bytes) (speed_in bytes);
  total = total_in bytes;
}

-- two lists of bytes are the same
abbrev pub same_bytes : List ℕ → List ℕ → Bool
same_bytes [] [] = true
same_bytes [] (y ∷ ys) = false
same_bytes (x ∷ xs) [] = false
same_bytes (x ∷ xs) (y ∷ ys) = both (eqb x y) (same_bytes xs ys)

-- 01: "exactly [221] bytes, laid out as above": a block is what its own fields are written as
abbrev pub laid_out : List ℕ → Bool
laid_out bytes = both (eqb (length bytes) state_length) (same_bytes (encode (decode bytes)) bytes)
