-- Reading a state's fields from its block, and storing them in it: what each step of the code makes of the bytes.
-- Assumes nothing.
use Prim.Native.Nat.{ℕ, zero, suc, ◌+◌, ◌-◌, ◌*◌, ◌^◌, ◌<◌, ◌≤◌}
use mathlib.Core.Path.{◌≡◌, refl, sym, subst, ap, ap₂, ◌∙◌}
use mathlib.Core.Bool.{Bool}
use mathlib.Core.List.{List, [], ◌∷◌, ◌++◌, append_assoc}
use native.Mathlib.Nat.{add-zero, not-suc-le-zero}
use native.Mathlib.Numerals.{add-one}
use native.Mathlib.Decide.{ℕ_discrete}
use native.Mathlib.Omega.{arith}
use borrow.Author.Tests.{eq-eqb, ne_eqb}
use lib.ListN.{length, get_or, take, drop, set, replicate, length-append, length-set, length-replicate, replicate-append-replicate}
use lib.Seq.{sets, length-sets, drop-drop, get_or-drop, length-take-le, take-length, take-suc, get_or-set_same, get_or-set_other}
use Rattle.arith.specs.Digits.{number, digits}
use Rattle.arith.specs.Choice.{pick}
use Rattle.arith.proofs.Sums.{sum_to_eq}
use Rattle.arith.proofs.DigitLaws.{length_digits, number_below}
use Rattle.reclaiming.specs.declared.Entry.{Entry}
use Rattle.plan.specs.declared.Rest.{Rest}
use Rattle.reclaiming.specs.Fields.{value_in, fields_bytes, fields_length, field_at, width_of, offset_of, read_field}
use Rattle.reclaiming.specs.StateBlock.{State, no_entry, queued_in, remaining_of, rest_in, rest_of, task_of, entry_with, floor_and_worst, floor_part, worst_part, head_fields, clock_field, task_field, level_field, count_field, tail_fields, end_fields, total_field, places, entry_fields, period_field, worst_field, work_field, remaining_field, fixed_field, unspent_field, head_length, entry_length, tail_at, total_at, state_length, entry_bytes, entries_bytes, unused_bytes, tail_bytes, encode, entry_from, entries_from, state_count, decode}
use Rattle.reclaiming.specs.States.{put_order}
use Rattle.state.specs.Code.{entry_at, entry_in, field_place, field_in, number_in, entry_stored, head_stored, changed, with_jobs, with_clock, with_total, FitTask, FitRest, rest_stored, total_stored, queued_to}
use Rattle.reclaiming.proofs.FieldLaws.{fields_values, sets_past, sets_over, length_fields, read_field_lem, fields_same, store_field, store_next}
use Rattle.reclaiming.proofs.StateCodec.{floor_part_lem, worst_part_lem, past_head, past_entries, past_head_lem, length-entries_from, length-entries_bytes, length_tail, up_to_places, two_parts, length_places}
use Rattle.reclaiming.proofs.Soundness.{queued_places}
use Rattle.arith.proofs.RangeLaws.{length-list_to, get_d_list_to, list_to_is, list_to_same}

-- the remaining ticks of a block's tasks
abbrev pub remaining_in : List ℕ → ℕ → ℕ
remaining_in bytes i = (entry_in bytes i).remaining

-- entry i of those in a block
entries_from_at :
    (n : ℕ) (bytes : List ℕ) (i : ℕ) → i < n → get_or (entries_from n bytes) i no_entry ≡ entry_from (drop (entry_length * i) bytes)
entries_from_at zero bytes i h = absurd (not-suc-le-zero h)
entries_from_at (suc n) bytes zero h = refl
entries_from_at (suc n) bytes (suc i) h =
    let e : entry_length + entry_length * i ≡ entry_length * suc i = omega arith in
    entries_from_at n (drop entry_length bytes) i (omega arith)
    ∙ ap (λ (l : List ℕ). entry_from l) (drop-drop (entry_length * i) entry_length bytes ∙ ap (λ (k : ℕ). drop k bytes) e)

-- a block's entries: how many they are, and each of them
pub count_in_lem : (bytes : List ℕ) → length (decode bytes).entries ≡ state_count bytes
count_in_lem bytes = length-entries_from (state_count bytes) (drop head_length bytes)

pub entry_at_lem : (bytes : List ℕ) (i : ℕ) → i < state_count bytes → get_or (decode bytes).entries i no_entry ≡ entry_in bytes i
entry_at_lem bytes i h =
    entries_from_at (state_count bytes) (drop head_length bytes) i h
    ∙ ap (λ (x : List ℕ). entry_from x) (drop-drop (entry_length * i) head_length bytes)

-- the remaining ticks of all of them
pub queued_in_lem : (bytes : List ℕ) → queued_to bytes (state_count bytes) ≡ queued_in (decode bytes).entries
queued_in_lem bytes =
    sum_to_eq (state_count bytes) (remaining_in bytes) (remaining_of (decode bytes))
    (λ i h. ap (λ (e : Entry). e.remaining) (sym (entry_at_lem bytes i h)))
    ∙ sym (queued_places (decode bytes) (count_in_lem bytes))

-- a field of one byte is that byte; so the task, the level and the count are
pub byte_field : (bytes : List ℕ) (at : ℕ) → number 256 1 (drop at bytes) ≡ get_or bytes at 0
byte_field bytes at = omega (arith, get_or-drop at bytes 0 0, ap (λ (k : ℕ). get_or bytes k 0) (add-zero at))

pub task_byte : (bytes : List ℕ) → get_or bytes (offset_of head_fields task_field) 0 ≡ (decode bytes).task
task_byte bytes = sym (byte_field bytes (offset_of head_fields task_field))

pub level_byte : (bytes : List ℕ) → get_or bytes (offset_of head_fields level_field) 0 ≡ (decode bytes).level
level_byte bytes = sym (byte_field bytes (offset_of head_fields level_field))

pub count_byte : (bytes : List ℕ) → get_or bytes (offset_of head_fields count_field) 0 ≡ state_count bytes
count_byte bytes = sym (byte_field bytes (offset_of head_fields count_field))

-- where field k of entry i stands, counted from the front of the entry
field_place_lem : (k i : ℕ) → field_place k + entry_length * i ≡ entry_at i + offset_of entry_fields k
field_place_lem k i = omega arith

-- a field of an entry is read there
pub field_in_lem : (bytes : List ℕ) (k i : ℕ) → number_in bytes k i ≡ read_field entry_fields k (drop (entry_at i) bytes)
field_in_lem bytes k i =
    ap (λ (l : List ℕ). number 256 (width_of entry_fields k) l)
    (ap (λ (m : ℕ). drop m bytes) (field_place_lem k i) ∙ sym (drop-drop (offset_of entry_fields k) (entry_at i) bytes))

pub field_work : (bytes : List ℕ) (i : ℕ) → number_in bytes work_field i ≡ (entry_in bytes i).work
field_work bytes i = field_in_lem bytes work_field i

pub field_remaining :
    (bytes : List ℕ) (i : ℕ) → number_in bytes remaining_field i ≡ (entry_in bytes i).remaining
field_remaining bytes i = field_in_lem bytes remaining_field i

-- bytes past a place are bytes
pub bytes_past : (at : ℕ) (l : List ℕ) → ((k : ℕ) → get_or l k 0 < 256) → (k : ℕ) → get_or (drop at l) k 0 < 256
bytes_past at l b k = subst (λ (x : ℕ). x < 256) (sym (get_or-drop at l k 0)) (b (at + k))

-- what is read there is in its range
pub field_small :
    (bytes : List ℕ) (at n i : ℕ) {r : ℕ} → ((j : ℕ) → get_or bytes j 0 < 256) → r ≡ field_in bytes at n i → r ≤ 256 ^ n - 1
field_small bytes at n i b h =
    let place : ℕ = at + entry_length * i in
    let fits : number 256 n (drop place bytes) < 256 ^ n =
    number_below 256 n (drop place bytes) (λ j q. bytes_past place bytes b j) in
    omega arith

pub field_read :
    (bytes : List ℕ) (i k : ℕ) {r : ℕ} →
    ((j : ℕ) → get_or bytes j 0 < 256) →
    r ≡ number_in bytes k i →
    (r ≡ read_field entry_fields k (drop (entry_at i) bytes)) × (r ≤ 256 ^ width_of entry_fields k - 1)
field_read bytes i k b h = (h ∙ field_in_lem bytes k i, field_small bytes (field_place k) (width_of entry_fields k) i b h)

-- the numbers of an entry, stored one after the other
module _ (e : Entry) (i : ℕ) (l : List ℕ) where
  -- those below field k are stored
  abbrev pub StoredBelow : ℕ → List ℕ → Type 0
  StoredBelow k m = m ≡ sets l (entry_at i) (fields_bytes (take k entry_fields) e)

  pub stored_next : (k : ℕ) {m n : List ℕ} → StoredBelow k m → n ≡ entry_stored m k i (value_in e (field_at entry_fields k)) → StoredBelow (suc k) n
  stored_next k {m} a b =
      store_next entry_fields k e l (entry_at i) a
      (b
      ∙ ap (λ (at : ℕ). sets m at (digits 256 (width_of entry_fields k) (value_in e (field_at entry_fields k)))) (field_place_lem k i))

-- the bytes of entries, one more at the end
entries_bytes_append : (es fs : List Entry) → entries_bytes (es ++ fs) ≡ entries_bytes es ++ entries_bytes fs
entries_bytes_append [] fs = refl
entries_bytes_append (e ∷ es) fs = ap (λ (l : List ℕ). entry_bytes e ++ l) (entries_bytes_append es fs)

entries_bytes_more :
    (es : List Entry) (i : ℕ) →
    i < length es →
    entries_bytes (take (i + 1) es) ≡ entries_bytes (take i es) ++ entry_bytes (get_or es i no_entry)
entries_bytes_more es i h =
    ap (λ (l : List Entry). entries_bytes l) (ap (λ (k : ℕ). take k es) (add-one i) ∙ take-suc es i no_entry h)
    ∙ entries_bytes_append (take i es) (get_or es i no_entry ∷ [])

-- zero bytes in two parts, in front of a tail
zeros_part : (a b k : ℕ) (tail : List ℕ) → k ≡ a + b → replicate k 0 ++ tail ≡ replicate a 0 ++ (replicate b 0 ++ tail)
zeros_part a b k tail e =
    ap (λ (n : ℕ). replicate n 0 ++ tail) e
    ∙ ap (λ (x : List ℕ). x ++ tail) (sym (replicate-append-replicate a b 0))
    ∙ append_assoc (replicate a 0) (replicate b 0) tail

-- a state's bytes from place i on, while no entry is stored there
abbrev free_from : State → ℕ → List ℕ
free_from s i = replicate (entry_length * (places - i)) 0 ++ tail_bytes s

free_next : (s : State) (i : ℕ) → i < places → free_from s i ≡ replicate entry_length 0 ++ free_from s (i + 1)
free_next s i h =
    zeros_part entry_length (entry_length * (places - (i + 1))) (entry_length * (places - i)) (tail_bytes s) (omega arith)

-- the image of a state whose first i entries are stored
abbrev pub stored_to : State → ℕ → List ℕ
stored_to s i = fields_bytes head_fields s ++ (entries_bytes (take i s.entries) ++ free_from s i)

pub stored_size : (s : State) (i : ℕ) → i ≤ places → i ≤ length s.entries → length (stored_to s i) ≡ state_length
stored_size s i few h =
    let p : List ℕ = entries_bytes (take i s.entries) in
    let free : ℕ = entry_length * (places - i) in
    omega (
      arith,
      length-append (fields_bytes head_fields s) (p ++ free_from s i),
      length_fields head_fields s,
      length-append p (free_from s i),
      length-entries_bytes (take i s.entries),
      length-take-le i s.entries h,
      length-append (replicate free 0) (tail_bytes s),
      length-replicate {A = ℕ} free 0,
      length_tail s,
    )

pub stored_more :
    (s : State) (i : ℕ) (m n : List ℕ) →
    i < places →
    i < length s.entries →
    m ≡ stored_to s i →
    n ≡ sets m (entry_at i) (entry_bytes (get_or s.entries i no_entry)) →
    n ≡ stored_to s (i + 1)
stored_more s i m n h q a b =
    let e : Entry = get_or s.entries i no_entry in
    let front : List ℕ = fields_bytes head_fields s in
    let p : List ℕ = entries_bytes (take i s.entries) in
    let rest : List ℕ = free_from s (i + 1) in
    let size : length (front ++ p) ≡ entry_at i =
    omega (
      arith,
      length-append front p,
      length_fields head_fields s,
      length-entries_bytes (take i s.entries),
      length-take-le i s.entries (omega arith),
    ) in
    b
    ∙ ap (λ (x : List ℕ). sets x (entry_at i) (entry_bytes e))
    (a ∙ ap (λ (x : List ℕ). front ++ (p ++ x)) (free_next s i h) ∙ sym (append_assoc front p (replicate entry_length 0 ++ rest)))
    ∙ sets_over (front ++ p) (replicate entry_length 0) rest (entry_bytes e) (entry_at i) size (sym (length_fields entry_fields e))
    ∙ append_assoc front p (entry_bytes e ++ rest)
    ∙ ap (λ (x : List ℕ). front ++ x) (sym (append_assoc p (entry_bytes e) rest))
    ∙ ap (λ (x : List ℕ). front ++ (x ++ rest)) (sym (entries_bytes_more s.entries i q))

pub stored_all : (s : State) (i : ℕ) → i ≡ length s.entries → stored_to s i ≡ encode s
stored_all s i e =
    ap (λ (k : ℕ). stored_to s k) e
    ∙ ap (λ (x : List Entry). fields_bytes head_fields s ++ (entries_bytes x ++ past_entries s)) (take-length s.entries)

-- the bytes of entries from entry i on
from_entry :
    (es : List Entry) (rest : List ℕ) (i : ℕ) → i < length es →
    drop (entry_length * i) (entries_bytes es ++ rest) ≡ entry_bytes (get_or es i no_entry) ++ (entries_bytes (drop (suc i) es) ++ rest)
from_entry [] rest i h = absurd (not-suc-le-zero h)
from_entry (e ∷ es) rest zero h = append_assoc (entry_bytes e) (entries_bytes es) rest
from_entry (e ∷ es) rest (suc i) h =
    let k : entry_length * suc i ≡ entry_length + entry_length * i = omega arith in
    ap (λ (n : ℕ). drop n (entries_bytes (e ∷ es) ++ rest)) k
    ∙ sym (drop-drop (entry_length * i) entry_length (entries_bytes (e ∷ es) ++ rest))
    ∙ from_entry es rest i (omega arith)

-- entry i read off the bytes of a state
module _ (s : State) (i : ℕ) (h : i < length s.entries) where
  abbrev entry : Entry
  entry = get_or s.entries i no_entry

  -- field k of it is read back, where its number fits
  encode_field :
      (k : ℕ) →
      value_in entry (field_at entry_fields k) < 256 ^ width_of entry_fields k →
      read_field entry_fields k (drop (entry_at i) (encode s)) ≡ value_in entry (field_at entry_fields k)
  encode_field k fits =
      ap (λ (l : List ℕ). read_field entry_fields k l)
      (sym (drop-drop (entry_length * i) head_length (encode s))
      ∙ ap (λ (l : List ℕ). drop (entry_length * i) l) (past_head_lem s)
      ∙ from_entry s.entries (past_entries s) i h)
      ∙ read_field_lem entry_fields k entry (entries_bytes (drop (suc i) s.entries) ++ past_entries s) fits

  -- its task and what is left of its job, where their numbers fit
  pub encode_task : FitTask (task_of (get_or s.entries i no_entry)) → task_of (entry_in (encode s) i) ≡ task_of (get_or s.entries i no_entry)
  encode_task f = λ k. record {
    period = encode_field period_field (omega (arith, f.period)) k;
    worst = (ap worst_part shared ∙ worst_part_lem entry.floor entry.worst (omega (arith, f.worst))) k;
    fixed = encode_field fixed_field (omega (arith, f.fixed)) k;
    floor = (ap floor_part shared ∙ floor_part_lem entry.floor entry.worst (omega (arith, f.worst))) k;
  }
    where
      shared : read_field entry_fields worst_field (drop (entry_at i) (encode s)) ≡ floor_and_worst entry.floor entry.worst
      shared = encode_field worst_field (omega (arith, f.worst, f.floor))

  pub encode_rest : FitRest (rest_of s i) → rest_in (entry_in (encode s) i) ≡ rest_of s i
  encode_rest f = λ k. record {
    fixed = encode_field unspent_field (omega (arith, f.fixed)) k;
    work = encode_field work_field (omega (arith, f.work)) k;
  }

  pub encode_remaining : remaining_of s i ≤ 65535 → (entry_in (encode s) i).remaining ≡ remaining_of s i
  encode_remaining e = encode_field remaining_field (omega arith)

-- the total of a state, read off its block entry by entry, where they fit
pub queued_encode :
    (s : State) {count : ℕ} → length s.entries ≡ count → ((i : ℕ) → i < count → remaining_of s i ≤ 65535) → queued_to (encode s) count ≡ queued_in s.entries
queued_encode s {count} all fits =
    sum_to_eq count (remaining_in (encode s)) (remaining_of s) (λ i h. encode_remaining s i (omega (arith, all)) (fits i h)) ∙ sym (queued_places s all)

-- a function that is changed at one place: there, and elsewhere
module _ {ℓ} {A : Type ℓ} (f : ℕ → A) (i : ℕ) (x : A) (j : ℕ) where
  pub changed_there : j ≡ i → changed f i x j ≡ x
  changed_there e = ap (λ (b : Bool). pick b x (f j)) (eq-eqb j i e)

  pub changed_else : (j ≡ i → ⊥) → changed f i x j ≡ f j
  changed_else n = ap (λ (b : Bool). pick b x (f j)) (ne_eqb j i n)

-- a state with other jobs
module _ (s : State) (left : ℕ → Rest) (remaining : ℕ → ℕ) where
  abbrev job_with : ℕ → Entry
  job_with i = entry_with (task_of (get_or s.entries i no_entry)) (left i) (remaining i)

  pub jobs_count : length (with_jobs s left remaining).entries ≡ length s.entries
  jobs_count = length-list_to (length s.entries) job_with

  module _ (i : ℕ) (h : i < length s.entries) where
    pub jobs_entry : get_or (with_jobs s left remaining).entries i no_entry ≡ entry_with (task_of (get_or s.entries i no_entry)) (left i) (remaining i)
    jobs_entry = get_d_list_to (length s.entries) job_with i no_entry h

    pub jobs_rest : rest_of (with_jobs s left remaining) i ≡ left i
    jobs_rest = ap rest_in jobs_entry

    pub jobs_remaining : remaining_of (with_jobs s left remaining) i ≡ remaining i
    jobs_remaining = ap (λ (e : Entry). e.remaining) jobs_entry

    pub jobs_task : task_of (get_or (with_jobs s left remaining).entries i no_entry) ≡ task_of (get_or s.entries i no_entry)
    jobs_task = ap task_of jobs_entry

-- a state with other entries
abbrev with_entries : State → List Entry → State
with_entries s es = record {
  clock = s.clock;
  task = s.task;
  level = s.level;
  entries = es;
  speeds = s.speeds;
  total = s.total;
}

-- its own jobs, and the same jobs
pub jobs_same : (s : State) → with_jobs s (rest_of s) (remaining_of s) ≡ s
jobs_same s =
    let e : s.entries ≡ (with_jobs s (rest_of s) (remaining_of s)).entries =
    list_to_is (length s.entries) (job_with s (rest_of s) (remaining_of s)) s.entries no_entry refl (λ i h. refl) in
    λ k. with_entries s (sym e k)

pub jobs_eq :
    (s : State) (f g : ℕ → Rest) (p q : ℕ → ℕ) →
    ((i : ℕ) → i < length s.entries → f i ≡ g i) →
    ((i : ℕ) → i < length s.entries → p i ≡ q i) →
    with_jobs s f p ≡ with_jobs s g q
jobs_eq s f g p q a b =
    let e : (with_jobs s f p).entries ≡ (with_jobs s g q).entries =
    list_to_same (length s.entries) (job_with s f p) (job_with s g q)
    (λ i h k. entry_with (task_of (get_or s.entries i no_entry)) (a i h k) (b i h k)) in
    λ k. with_entries s (e k)

-- a state with another entry in the place of one
abbrev with_entry : State → ℕ → Entry → State
with_entry s i e = with_entries s (set s.entries i e)

-- a store leaves the length
pub length-entry_stored : (bytes : List ℕ) (k i x : ℕ) → length (entry_stored bytes k i x) ≡ length bytes
length-entry_stored bytes k i x = length-sets bytes (field_place k + entry_length * i) (digits 256 (width_of entry_fields k) x)

pub length-rest_stored : (bytes : List ℕ) (i : ℕ) (r : Rest) → length (rest_stored bytes i r) ≡ length bytes
length-rest_stored bytes i r =
    length-entry_stored (entry_stored bytes work_field i r.work) unspent_field i r.fixed
    ∙ length-entry_stored bytes work_field i r.work

-- a number stored in field k of entry i makes that entry another
module _ (k v : ℕ) (f : Entry) where
  store_entries :
      (es : List Entry) (rest : List ℕ) (i : ℕ) → i < length es →
      fields_values entry_fields f ≡ set (fields_values entry_fields (get_or es i no_entry)) k v →
      sets (entries_bytes es ++ rest) (entry_length * i + offset_of entry_fields k) (digits 256 (width_of entry_fields k) v)
      ≡ entries_bytes (set es i f) ++ rest
  store_entries [] rest i h e = absurd (not-suc-le-zero h)
  store_entries (x ∷ es) rest zero h e =
      let n : entry_length * 0 + offset_of entry_fields k ≡ offset_of entry_fields k = omega arith in
      ap₂ (λ (l : List ℕ) (m : ℕ). sets l m (digits 256 (width_of entry_fields k) v)) (append_assoc (entry_bytes x) (entries_bytes es) rest) n
      ∙ store_field entry_fields k x f v (entries_bytes es ++ rest) e
      ∙ sym (append_assoc (entry_bytes f) (entries_bytes es) rest)
  store_entries (x ∷ es) rest (suc i) h e =
      let at : ℕ = entry_length * i + offset_of entry_fields k in
      let n : entry_length * suc i + offset_of entry_fields k ≡ entry_length + at = omega arith in
      ap₂ (λ (l : List ℕ) (m : ℕ). sets l m (digits 256 (width_of entry_fields k) v)) (append_assoc (entry_bytes x) (entries_bytes es) rest) n
      ∙ sets_past (entry_bytes x) (entries_bytes es ++ rest) entry_length at (digits 256 (width_of entry_fields k) v) (length_fields entry_fields x)
      ∙ ap (λ (l : List ℕ). entry_bytes x ++ l) (store_entries es rest i (omega arith) e)
      ∙ sym (append_assoc (entry_bytes x) (entries_bytes (set es i f)) rest)

  pub store_entry :
      (s : State) (i : ℕ) → i < length s.entries →
      fields_values entry_fields f ≡ set (fields_values entry_fields (get_or s.entries i no_entry)) k v →
      entry_stored (encode s) k i v ≡ encode (with_entry s i f)
  store_entry s i h e =
      let new : List ℕ = digits 256 (width_of entry_fields k) v in
      let at : ℕ = entry_length * i + offset_of entry_fields k in
      let n : field_place k + entry_length * i ≡ head_length + at = omega arith in
      let front : fields_bytes head_fields s ≡ fields_bytes head_fields (with_entry s i f) =
      fields_same head_fields s (with_entry s i f) (simp length-set) in
      let unused : unused_bytes s.entries ≡ unused_bytes (set s.entries i f) = simp length-set in
      ap (λ (m : ℕ). sets (encode s) m new) n
      ∙ sets_past (fields_bytes head_fields s) (past_head s) head_length at new (length_fields head_fields s)
      ∙ ap₂ (λ (x y : List ℕ). x ++ y) front
      (store_entries s.entries (past_entries s) i h e
      ∙ ap (λ (l : List ℕ). entries_bytes (set s.entries i f) ++ (l ++ tail_bytes s)) unused)

-- a number stored in field k in front of the entries
pub store_head :
    (s t : State) (k v : ℕ) →
    fields_values head_fields t ≡ set (fields_values head_fields s) k v →
    past_head s ≡ past_head t →
    head_stored (encode s) k v ≡ encode t
store_head s t k v e past =
    store_field head_fields k s t v (past_head s) e ∙ ap (λ (l : List ℕ). fields_bytes head_fields t ++ l) past

-- storing one field of one entry
module _ (s : State) (left : ℕ → Rest) (remaining : ℕ → ℕ) (i : ℕ) (h : i < length s.entries) where
  in_jobs : i < length (with_jobs s left remaining).entries
  in_jobs = omega (arith, jobs_count s left remaining)

  -- one entry of many
  changed_entries :
      (f : ℕ → Rest) (p : ℕ → ℕ) →
      ((j : ℕ) → (j ≡ i → ⊥) → f j ≡ left j) →
      ((j : ℕ) → (j ≡ i → ⊥) → p j ≡ remaining j) →
      set (with_jobs s left remaining).entries i (job_with s f p i) ≡ (with_jobs s f p).entries
  changed_entries f p a b =
      let es : List Entry = (with_jobs s left remaining).entries in
      let e : Entry = job_with s f p i in
      list_to_is (length s.entries) (job_with s f p) (set es i e) no_entry (length-set es i e ∙ jobs_count s left remaining)
      (λ j k.
      elim (ℕ_discrete j i) [
        | yes z ↦ subst (λ (n : ℕ). get_or (set es i e) n no_entry ≡ job_with s f p n) (sym z) (get_or-set_same es i e no_entry in_jobs)
        | no z ↦
            get_or-set_other es i j e no_entry z
            ∙ jobs_entry s left remaining j k
            ∙ ap₂ (entry_with (task_of (get_or s.entries j no_entry))) (sym (a j z)) (sym (b j z))
      ])

  -- the bytes of a state in which one number of entry i is stored
  store_jobs :
      (f : ℕ → Rest) (p : ℕ → ℕ) (k x : ℕ) →
      fields_values entry_fields (job_with s f p i) ≡ set (fields_values entry_fields (job_with s left remaining i)) k x →
      ((j : ℕ) → (j ≡ i → ⊥) → f j ≡ left j) →
      ((j : ℕ) → (j ≡ i → ⊥) → p j ≡ remaining j) →
      entry_stored (encode (with_jobs s left remaining)) k i x ≡ encode (with_jobs s f p)
  store_jobs f p k x e a b =
      store_entry k x (job_with s f p i) (with_jobs s left remaining) i in_jobs
      (e ∙ ap (λ (y : Entry). set (fields_values entry_fields y) k x) (sym (jobs_entry s left remaining i h)))
      ∙ ap encode (λ j. with_entries s (changed_entries f p a b j))

  pub store_remaining :
      (x : ℕ) → entry_stored (encode (with_jobs s left remaining)) remaining_field i x ≡ encode (with_jobs s left (changed remaining i x))
  store_remaining x =
      store_jobs left (changed remaining i x) remaining_field x (simp (eq-eqb i i refl)) (λ j z. refl) (λ j z. changed_else remaining i x j z)

-- storing what is left of one job: its work, then its fixed ticks
module _ (s : State) (left : ℕ → Rest) (remaining : ℕ → ℕ) (i : ℕ) (h : i < length s.entries) where
  pub store_rest : (x : Rest) → rest_stored (encode (with_jobs s left remaining)) i x ≡ encode (with_jobs s (changed left i x) remaining)
  store_rest x =
      let half : ℕ → Rest = changed left i (record { fixed = (left i).fixed; work = x.work }) in
      ap (λ (l : List ℕ). entry_stored l unspent_field i x.fixed)
      (store_jobs s left remaining i h half remaining work_field x.work (simp (eq-eqb i i refl))
      (λ j z. changed_else left i (record { fixed = (left i).fixed; work = x.work }) j z) (λ j z. refl))
      ∙ store_jobs s half remaining i h (changed left i x) remaining unspent_field x.fixed (simp (eq-eqb i i refl))
      (λ j z. changed_else left i x j z ∙ sym (changed_else left i (record { fixed = (left i).fixed; work = x.work }) j z))
      (λ j z. refl)

-- storing the clock, and an order
pub store_clock : (s : State) (x : ℕ) → head_stored (encode s) clock_field x ≡ encode (with_clock s x)
store_clock s x = store_head s (with_clock s x) clock_field x refl refl

pub store_order :
    (s : State) (task level : ℕ) → head_stored (head_stored (encode s) task_field task) level_field level ≡ encode (put_order s task level)
store_order s task level =
    ap (λ (l : List ℕ). head_stored l level_field level) (store_head s (put_order s task s.level) task_field task refl refl)
    ∙ store_head (put_order s task s.level) (put_order s task level) level_field level refl refl

-- storing the total
pub store_total : (s : State) (x : ℕ) → length s.entries ≤ places → total_stored (encode s) x ≡ encode (with_total s x)
store_total s x few =
    let width : ℕ = width_of end_fields total_field in
    let old : List ℕ = digits 256 width s.total in
    let new : List ℕ = digits 256 width x in
    let table : List ℕ = fields_bytes tail_fields s in
    ap (λ (l : List ℕ). sets l total_at new) (two_parts s)
    ∙ sets_past (up_to_places s) (tail_bytes s) tail_at (fields_length tail_fields) new (length_places s few)
    ∙ ap (λ (l : List ℕ). up_to_places s ++ l)
    (sets_past table (fields_bytes end_fields s) (fields_length tail_fields) 0 new (length_fields tail_fields s)
    ∙ ap (λ (l : List ℕ). table ++ l)
    (sets_over [] old [] new 0 refl (length_digits 256 width s.total ∙ sym (length_digits 256 width x))))
    ∙ sym (two_parts (with_total s x))
