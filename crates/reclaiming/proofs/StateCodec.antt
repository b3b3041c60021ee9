-- A state that fits its block is read back from it, and a block that is laid out is what its own fields are written as.
-- Assumes nothing.
use Prim.Native.Nat.{ℕ, zero, suc, ◌-◌, ◌*◌, ◌^◌, ◌<◌, ◌≤◌}
use mathlib.Core.Path.{◌≡◌, refl, sym, subst, ap, ap₂, ◌∙◌}
use mathlib.Core.Bool.{true}
use mathlib.Core.List.{List, [], ◌∷◌, ◌++◌, append-nil, append_assoc}
use native.Mathlib.Omega.{arith}
use borrow.Author.Tests.{eqb-true, eq-eqb}
use lib.Dec.{T, eqb}
use lib.ListN.{length, get_or, drop, length-append, length-replicate}
use lib.Seq.{drop_at, drop-drop}
use Rattle.arith.specs.Ranges.{list_to}
use Rattle.arith.proofs.RangeLaws.{get_d_list_to, list_to_is}
use Rattle.arith.proofs.Tests.{both_left, both_right, both_true}
use Rattle.reclaiming.specs.declared.Entry.{Entry}
use Rattle.reclaiming.specs.Fields.{Field, zeros, width, value_in, fields_bytes, fields_length, field_at, width_of, read_field}
use Rattle.reclaiming.specs.StateBlock.{State, no_entry, head_fields, clock_field, task_field, level_field, count_field, tail_fields, places}
use Rattle.reclaiming.specs.StateBlock.{level_places, speed_row, levels_field, speed_field, end_fields, total_field, tail_at, total_at, tail_bytes}
use Rattle.reclaiming.specs.StateBlock.{level_count, speed_in, total_in}
use Rattle.reclaiming.specs.StateBlock.{floor_and_worst, floor_part, worst_part, entry_fields, period_field, worst_field, work_field, remaining_field, fixed_field, unspent_field, head_length, entry_length, state_length}
use Rattle.reclaiming.specs.StateBlock.{entry_bytes, entries_bytes, unused_bytes, encode, entry_from, entries_from, state_count, decode, same_bytes, laid_out}
use Rattle.reclaiming.proofs.FieldLaws.{length_fields, read_field_lem}

-- the lengths that 01 and 02 give
pub head_length_lem : head_length ≡ 8
head_length_lem = refl

pub entry_length_lem : entry_length ≡ 12
entry_length_lem = refl

pub state_length_lem : state_length ≡ 221
state_length_lem = refl

-- a number made of a floor and a worst case has both in it, and is made of the two in it
pub floor_part_lem : (floor worst : ℕ) → worst < 1048576 → floor_part (floor_and_worst floor worst) ≡ floor
floor_part_lem floor worst h = omega arith

pub worst_part_lem : (floor worst : ℕ) → worst < 1048576 → worst_part (floor_and_worst floor worst) ≡ worst
worst_part_lem floor worst h = omega arith

pub both_parts : (n : ℕ) → floor_and_worst (floor_part n) (worst_part n) ≡ n
both_parts n = omega arith

-- an entry whose numbers fit their bits
pub record StorableEntry (e : Entry) : Type 0 where
  pub period : e.period < 256 ^ width_of entry_fields period_field
  pub floor : e.floor < 16
  pub worst : e.worst < 1048576
  pub work : e.work < 256 ^ width_of entry_fields work_field
  pub remaining : e.remaining < 256 ^ width_of entry_fields remaining_field
  pub fixed : e.fixed < 256 ^ width_of entry_fields fixed_field
  pub unspent : e.unspent < 256 ^ width_of entry_fields unspent_field

-- a table of speeds that does: at most eight, of two bytes each
pub record StorableTable (speeds : List ℕ) : Type 0 where
  pub few : length speeds ≤ level_places
  pub each : (k : ℕ) → k < length speeds → get_or speeds k 0 < 65536

-- a state whose numbers do
pub record Storable (s : State) : Type 0 where
  pub clock : s.clock < 256 ^ width_of head_fields clock_field
  pub task : s.task < 256 ^ width_of head_fields task_field
  pub level : s.level < 256 ^ width_of head_fields level_field
  pub count : length s.entries ≤ places
  pub entries : (i : ℕ) → i < length s.entries → StorableEntry (get_or s.entries i no_entry)
  pub table : StorableTable s.speeds
  pub total : s.total < 256 ^ width_of end_fields total_field

-- what stands past the head, and past the entries
abbrev pub past_entries : State → List ℕ
past_entries s = unused_bytes s.entries ++ tail_bytes s

abbrev pub past_head : State → List ℕ
past_head s = entries_bytes s.entries ++ past_entries s

pub past_head_lem : (s : State) → drop head_length (encode s) ≡ past_head s
past_head_lem s = drop_at (fields_bytes head_fields s) (past_head s) head_length (length_fields head_fields s)

-- an entry is read back
entry_back : (e : Entry) (rest : List ℕ) → StorableEntry e → entry_from (entry_bytes e ++ rest) ≡ e
entry_back e rest h =
    λ i. record {
      period = read_field_lem entry_fields period_field e rest h.period i;
      floor = (ap floor_part shared ∙ floor_part_lem e.floor e.worst h.worst) i;
      worst = (ap worst_part shared ∙ worst_part_lem e.floor e.worst h.worst) i;
      work = read_field_lem entry_fields work_field e rest h.work i;
      remaining = read_field_lem entry_fields remaining_field e rest h.remaining i;
      fixed = read_field_lem entry_fields fixed_field e rest h.fixed i;
      unspent = read_field_lem entry_fields unspent_field e rest h.unspent i;
    }
  where
    shared : read_field entry_fields worst_field (entry_bytes e ++ rest) ≡ floor_and_worst e.floor e.worst
    shared = read_field_lem entry_fields worst_field e rest (omega (arith, h.floor, h.worst))

entries_back :
    (es : List Entry) (rest : List ℕ) →
    ((i : ℕ) → i < length es → StorableEntry (get_or es i no_entry)) →
    entries_from (length es) (entries_bytes es ++ rest) ≡ es
entries_back [] rest h = refl
entries_back (e ∷ es) rest h =
    ap₂ (λ (x : Entry) (l : List Entry). x ∷ l) (entry_back e (entries_bytes es ++ rest) (h 0 (omega arith)))
    (entries_back es rest (λ i l. h (suc i) (omega arith)))

-- how many entries are read, and how many bytes are written
pub length-entries_from : (n : ℕ) (bytes : List ℕ) → length (entries_from n bytes) ≡ n
length-entries_from zero bytes = refl
length-entries_from (suc n) bytes = ap suc (length-entries_from n (drop entry_length bytes))

pub length-entries_bytes : (es : List Entry) → length (entries_bytes es) ≡ entry_length * length es
length-entries_bytes [] = refl
length-entries_bytes (e ∷ es) =
    omega (arith, length-append (entry_bytes e) (entries_bytes es), length_fields entry_fields e, length-entries_bytes es)

pub length_tail : (s : State) → length (tail_bytes s) ≡ state_length - tail_at
length_tail s =
    omega (arith, length-append (fields_bytes tail_fields s) (fields_bytes end_fields s), length_fields tail_fields s, length_fields end_fields s)

pub length-encode : (s : State) → length s.entries ≤ places → length (encode s) ≡ state_length
length-encode s h =
    omega (
      arith,
      length-append (fields_bytes head_fields s) (past_head s),
      length_fields head_fields s,
      length-append (entries_bytes s.entries) (past_entries s),
      length-entries_bytes s.entries,
      length-append (unused_bytes s.entries) (tail_bytes s),
      length-replicate {A = ℕ} (entry_length * (places - length s.entries)) 0,
      length_tail s,
    )

-- a speed's row, and what is read there
pub speed_row_lem : (k : ℕ) → k < level_places → field_at tail_fields (speed_field k) ≡ speed_row k
speed_row_lem k h = get_d_list_to level_places speed_row k (zeros 0) h

pub speed_back :
    (s : State) (k : ℕ) → k < level_places → get_or s.speeds k 0 < 65536 → read_field tail_fields (speed_field k) (tail_bytes s) ≡ get_or s.speeds k 0
speed_back s k h fits =
    read_field_lem tail_fields (speed_field k) s (fields_bytes end_fields s)
    (subst (λ (f : Field State). value_in s f < 256 ^ width f) (sym (speed_row_lem k h)) fits)
    ∙ ap (value_in s) (speed_row_lem k h)

-- what stands up to the end of the places
abbrev pub up_to_places : State → List ℕ
up_to_places s = (fields_bytes head_fields s ++ entries_bytes s.entries) ++ unused_bytes s.entries

pub two_parts : (s : State) → encode s ≡ up_to_places s ++ tail_bytes s
two_parts s =
    let head : List ℕ = fields_bytes head_fields s in
    let es : List ℕ = entries_bytes s.entries in
    let unused : List ℕ = unused_bytes s.entries in
    sym (append_assoc (head ++ es) unused (tail_bytes s) ∙ append_assoc head es (unused ++ tail_bytes s))

pub length_places : (s : State) → length s.entries ≤ places → length (up_to_places s) ≡ tail_at
length_places s few =
    let head : List ℕ = fields_bytes head_fields s in
    let es : List ℕ = entries_bytes s.entries in
    omega (
      arith,
      length-append (head ++ es) (unused_bytes s.entries),
      length-append head es,
      length_fields head_fields s,
      length-entries_bytes s.entries,
      length-replicate {A = ℕ} (entry_length * (places - length s.entries)) 0,
    )

-- what stands past the places
pub past_places : (s : State) → length s.entries ≤ places → drop tail_at (encode s) ≡ tail_bytes s
past_places s few =
    ap (λ (l : List ℕ). drop tail_at l) (two_parts s) ∙ drop_at (up_to_places s) (tail_bytes s) tail_at (length_places s few)

-- and past the table of speeds
pub past_table : (s : State) → length s.entries ≤ places → drop total_at (encode s) ≡ fields_bytes end_fields s
past_table s few =
    sym (drop-drop (fields_length tail_fields) tail_at (encode s))
    ∙ ap (λ (l : List ℕ). drop (fields_length tail_fields) l) (past_places s few)
    ∙ drop_at (fields_bytes tail_fields s) (fields_bytes end_fields s) (fields_length tail_fields) (length_fields tail_fields s)

-- the total is read back
total_back : (s : State) → length s.entries ≤ places → s.total < 256 ^ width_of end_fields total_field → total_in (encode s) ≡ s.total
total_back s few fits =
    ap (λ (l : List ℕ). read_field end_fields total_field l) (past_table s few ∙ sym (append-nil (fields_bytes end_fields s)))
    ∙ read_field_lem end_fields total_field s [] fits

-- a table of speeds is read back
table_back :
    (s : State) → length s.entries ≤ places → StorableTable s.speeds → list_to (level_count (encode s)) (speed_in (encode s)) ≡ s.speeds
table_back s few t =
    ap₂ (λ (n : ℕ) (l : List ℕ). list_to n (λ k. read_field tail_fields (speed_field k) l)) count (past_places s few)
    ∙ sym
    (list_to_is (length s.speeds) (λ k. read_field tail_fields (speed_field k) (tail_bytes s)) s.speeds 0 refl
    (λ k h. sym (speed_back s k (omega (arith, t.few)) (t.each k h))))
  where
    count : level_count (encode s) ≡ length s.speeds
    count =
        ap (λ (l : List ℕ). read_field tail_fields levels_field l) (past_places s few)
        ∙ read_field_lem tail_fields levels_field s (fields_bytes end_fields s) (omega (arith, t.few))

-- a state is read back
pub decode-encode : (s : State) → Storable s → decode (encode s) ≡ s
decode-encode s h =
    λ i. record {
      clock = read_field_lem head_fields clock_field s (past_head s) h.clock i;
      task = read_field_lem head_fields task_field s (past_head s) h.task i;
      level = read_field_lem head_fields level_field s (past_head s) h.level i;
      entries = entries i;
      speeds = table_back s h.count h.table i;
      total = total_back s h.count h.total i;
    }
  where
    entries : entries_from (state_count (encode s)) (drop head_length (encode s)) ≡ s.entries
    entries =
        ap₂ (λ (n : ℕ) (l : List ℕ). entries_from n l) (read_field_lem head_fields count_field s (past_head s) (omega (arith, h.count))) (past_head_lem s)
        ∙ entries_back s.entries (past_entries s) h.entries

-- the test of two lists of bytes passes exactly if they are equal
pub same_bytes_lem : (xs ys : List ℕ) → same_bytes xs ys ≡ true → xs ≡ ys
same_bytes_lem [] [] h = refl
same_bytes_lem [] (y ∷ ys) h = absurd (subst T (sym h) tt)
same_bytes_lem (x ∷ xs) [] h = absurd (subst T (sym h) tt)
same_bytes_lem (x ∷ xs) (y ∷ ys) h =
    ap₂ (λ (n : ℕ) (l : List ℕ). n ∷ l) (eqb-true x y (both_left (eqb x y) (same_bytes xs ys) h))
    (same_bytes_lem xs ys (both_right (eqb x y) (same_bytes xs ys) h))

pub bytes_same : (xs : List ℕ) → same_bytes xs xs ≡ true
bytes_same [] = refl
bytes_same (x ∷ xs) = both_true (eq-eqb x x refl) (bytes_same xs)

-- what is written is laid out
pub laid_out_lem : (s : State) → Storable s → laid_out (encode s) ≡ true
laid_out_lem s h =
    both_true (eq-eqb (length (encode s)) state_length (length-encode s h.count))
    (subst (λ (t : State). same_bytes (encode t) (encode s) ≡ true) (sym (decode-encode s h)) (bytes_same (encode s)))

-- what is laid out has the length of a state, and is written back
module _ (bytes : List ℕ) (h : laid_out bytes ≡ true) where
  pub laid_length : length bytes ≡ state_length
  laid_length = eqb-true (length bytes) state_length (both_left (eqb (length bytes) state_length) (same_bytes (encode (decode bytes)) bytes) h)

  pub laid_back : encode (decode bytes) ≡ bytes
  laid_back =
      same_bytes_lem (encode (decode bytes)) bytes
      (both_right (eqb (length bytes) state_length) (same_bytes (encode (decode bytes)) bytes) h)
