-- Demand 2: a written plan reads back as the same plan, and an accepted block written again has the same bytes. One proof for every
-- edition: of an edition it uses that a task's numbers fit its fields and that its fields are the whole task.
-- Assumes nothing.
use Prim.Native.Nat.{ℕ, zero, suc, ◌+◌, ◌-◌, ◌*◌, ◌<◌, ◌≤◌}
use mathlib.Core.Path.{◌≡◌, refl, sym, subst, ap, ap₂, ◌∙◌}
use mathlib.Core.Bool.{Bool, true, false, not, true≢false}
use mathlib.Core.List.{List, [], ◌∷◌, ◌++◌}
use native.Mathlib.Nat.{mul-suc}
use native.Mathlib.Decide.{dec_le}
use native.Mathlib.Omega.{arith}
use borrow.Author.Tests.{leb-true, eq-eqb, eqb-true, not-true}
use lib.Dec.{eqb}
use lib.ListN.{length, get_or, take, drop, replicate, length-drop, length-take, get_or-eq_default}
use lib.Seq.{get_or-drop, get_or-take, drop_at, drop-drop, take-add, length-take-le, take-append_seam}
use Rattle.arith.specs.Choice.{both, every}
use Rattle.arith.specs.Need.{need}
use Rattle.arith.specs.Digits.{digits}
use Rattle.arith.specs.Bits.{width_of, fields_bits, fields_from, unpacked, packed_to, packed}
use Rattle.arith.specs.Asking.{is_accepted, first_no, within}
use Rattle.arith.proofs.Tests.{both_left, both_right, both_true, eq_yes, eq_not, test_eq}
use Rattle.arith.proofs.ListLaws.{at_every, zero_at}
use Rattle.arith.proofs.Needs.{need_covers}
use Rattle.arith.proofs.QuestionLaws.{within_low, within_high, yes_before, yes_of, yes_after}
use Rattle.arith.proofs.DigitLaws.{number_digits, number-drop_same, digits_number}
use Rattle.arith.proofs.BitLaws.{length-unpacked, unpacked-packed, unpacked_below, packed_same, packed-unpacked}
use Rattle.arith.proofs.FieldLaws.{Same, Below, same_drop, below_drop, fields_read, fields_bits_lem, fields_same}
use Rattle.plan.specs.declared.Task.{Task}
use Rattle.plan.specs.declared.Plan.{Plan}
use Rattle.plan.specs.Blocks.{widths_by, task_widths, task_numbers, task_of, adds_nothing, task_width, task_bits, tasks_bits, plan_bits, edition_by, edition_of, plan_block, bit_count, block_length}
use Rattle.plan.specs.Blocks.{edition_in, count_in, tasks_from, tasks_in, closing_bits, tasks_of, plan_of, no_task}
use Rattle.plan.specs.LevelBlocks.{loading, speeds_in}
use Rattle.plan.specs.Questions.{in_range, floor_loaded, addition_question, judging, reading}
use Rattle.plan.specs.Answers.{verdict_answer, answered, judged_by}
use Rattle.plan.specs.Laws.{Bytes, WrittenReadsBack, AcceptedWritesBack}
use Rattle.plan.proofs.BlockBits.{length-task_bits, length-plan_bits, plan_bits_below, plan_bits_past, length-plan_block, block_length_covers, block_length_least, used}
use Rattle.plan.proofs.LevelBlockLaws.{loaded_table}
use Rattle.plan.proofs.Facts.{InRange, in_range_lem, floors_among, FineTasks, FineList, FineBlock, fine_list, fine_block, block_yes, list_yes, block_list, length-tasks_in}

-- what a task's fields are read as, by whether its edition is 2
module _ (t : Task) where
  -- its numbers fit their fields, so that they are read back
  numbers_back :
      (second : Bool) (rest : List ℕ) →
      InRange t →
      t.floor < 8 →
      fields_from (widths_by second) (fields_bits (widths_by second) (task_numbers t) ++ rest) ≡ take (length (widths_by second)) (task_numbers t)
  numbers_back true rest r low =
      fields_read (widths_by true) (task_numbers t) rest (omega arith) (omega arith, (omega arith, (omega arith, (omega arith, tt))))
  numbers_back false rest r low = fields_read (widths_by false) (task_numbers t) rest (omega arith) (omega arith, (omega arith, tt))

  -- they are the whole task where the edition has a field for what it adds, or it adds nothing
  task_kept : (second : Bool) → (second ≡ false → adds_nothing t ≡ true) → task_of (take (length (widths_by second)) (task_numbers t)) ≡ t
  task_kept true h = refl
  task_kept false h =
      let fixed : t.fixed ≡ 0 = eqb-true t.fixed 0 (both_left (eqb t.fixed 0) (eqb t.floor 0) (h refl)) in
      let floor : t.floor ≡ 0 = eqb-true t.floor 0 (both_right (eqb t.fixed 0) (eqb t.floor 0) (h refl)) in
      λ i. record { period = t.period; worst = t.worst; fixed = sym fixed i; floor = sym floor i }

module _ (edition : ℕ) where
  -- so tasks are read back in an edition that has a field for what they add
  pub tasks_back :
      (ts : List Task) →
      every in_range ts ≡ true →
      every (floor_loaded 8) ts ≡ true →
      (eqb edition 2 ≡ false → every adds_nothing ts ≡ true) →
      tasks_from edition (length ts) (tasks_bits edition ts) ≡ ts
  tasks_back [] h low c = refl
  tasks_back (t ∷ ts) h low c =
      ap₂ (λ (x : Task) (l : List Task). x ∷ l)
      (ap task_of
      (numbers_back t (eqb edition 2) (tasks_bits edition ts) (in_range_lem t (both_left (in_range t) (every in_range ts) h))
      (leb-true (suc t.floor) 8 (both_left (floor_loaded 8 t) (every (floor_loaded 8) ts) low)))
      ∙ task_kept t (eqb edition 2) (λ h. both_left (adds_nothing t) (every adds_nothing ts) (c h)))
      (ap (λ (b : List ℕ). tasks_from edition (length ts) b)
      (drop_at (task_bits edition t) (tasks_bits edition ts) (task_width edition) (length-task_bits edition t))
      ∙ tasks_back ts (both_right (in_range t) (every in_range ts) h) (both_right (floor_loaded 8 t) (every (floor_loaded 8) ts) low)
      (λ h. both_right (adds_nothing t) (every adds_nothing ts) (c h)))

  -- reading looks only at the bits
  tasks_same : (n : ℕ) (xs ys : List ℕ) → Same xs ys → tasks_from edition n xs ≡ tasks_from edition n ys
  tasks_same zero xs ys h = refl
  tasks_same (suc n) xs ys h =
      let w : ℕ = task_width edition in
      ap₂ (λ (x : Task) (l : List Task). x ∷ l) (ap task_of (fields_same (task_widths edition) xs ys h))
      (tasks_same n (drop w xs) (drop w ys) (same_drop w xs ys h))

-- and the bits that a task is read from are its bits
again_by :
    (second : Bool) (bits : List ℕ) →
    width_of (widths_by second) ≤ length bits →
    Below bits →
    fields_bits (widths_by second) (task_numbers (task_of (fields_from (widths_by second) bits))) ≡ take (width_of (widths_by second)) bits
again_by true bits l h = fields_bits_lem (widths_by true) bits l h
again_by false bits l h = fields_bits_lem (widths_by false) bits l h

pub tasks_again :
    (edition n : ℕ) (bits : List ℕ) →
    task_width edition * n ≤ length bits →
    Below bits →
    tasks_bits edition (tasks_from edition n bits) ≡ take (task_width edition * n) bits
tasks_again edition zero bits l h =
    let e : 0 ≡ task_width edition * 0 = omega arith in
    ap (λ (k : ℕ). take k bits) e
tasks_again edition (suc n) bits l h =
    let w : ℕ = task_width edition in
    let e : w + w * n ≡ w * suc n = omega (arith, mul-suc w n) in
    ap₂ (λ (x y : List ℕ). x ++ y) (again_by (eqb edition 2) bits (omega arith) h)
    (tasks_again edition n (drop w bits) (simp length-drop (omega arith)) (below_drop w bits h))
    ∙ sym (take-add w (w * n) bits)
    ∙ ap (λ (k : ℕ). take k bits) e

-- the edition that tasks are written in is 1 or 2, has a field for what they add, and is not 2 where they add nothing
edition_fits : (plain : Bool) → within 1 2 (edition_by plain) ≡ true
edition_fits true = refl
edition_fits false = refl

carries_by : (plain : Bool) → eqb (edition_by plain) 2 ≡ false → plain ≡ true
carries_by true h = refl
carries_by false h = absurd (true≢false h)

adds_by : (plain : Bool) → not (both (eqb (edition_by plain) 2) plain) ≡ true
adds_by true = refl
adds_by false = refl

module _ (ts : List Task) where
  pub edition_low : 1 ≤ edition_of ts
  edition_low = within_low 1 2 (edition_of ts) (edition_fits (every adds_nothing ts))

  pub edition_high : edition_of ts ≤ 2
  edition_high = within_high 1 2 (edition_of ts) (edition_fits (every adds_nothing ts))

  edition_carries : eqb (edition_of ts) 2 ≡ false → every adds_nothing ts ≡ true
  edition_carries = carries_by (every adds_nothing ts)

  pub edition_adds : (addition_question (edition_of ts) ts).reply ≡ true
  edition_adds = adds_by (every adds_nothing ts)

-- what a block written is read as
module _ (ts : List Task) (high : length ts ≤ 16) (ranges : every in_range ts ≡ true) (floors : every (floor_loaded 8) ts ≡ true) where
  -- its bits are the plan's
  block_bits : Same (unpacked (plan_block ts)) (plan_bits (edition_of ts) ts)
  block_bits k =
      let bits : List ℕ = plan_bits (edition_of ts) ts in
      let n : ℕ = length bits in
      unpacked-packed (need 8 n) bits (omega (arith, need_covers 8 n (omega arith))) (plan_bits_below (edition_of ts) ts) k

  block_edition : edition_in (plan_block ts) ≡ edition_of ts
  block_edition =
      number-drop_same 2 4 0 (unpacked (plan_block ts)) (plan_bits (edition_of ts) ts) block_bits
      ∙ number_digits 2 4 (edition_of ts) (digits 2 5 (length ts) ++ tasks_bits (edition_of ts) ts) (omega arith)
      (omega (arith, edition_high ts))

  block_count : count_in (plan_block ts) ≡ length ts
  block_count =
      number-drop_same 2 5 4 (unpacked (plan_block ts)) (plan_bits (edition_of ts) ts) block_bits
      ∙ number_digits 2 5 (length ts) (tasks_bits (edition_of ts) ts) (omega arith) (omega arith)

  pub block_reads : tasks_in (plan_block ts) ≡ ts
  block_reads =
      let u : List ℕ = unpacked (plan_block ts) in
      let bits : List ℕ = plan_bits (edition_of ts) ts in
      ap₂ (λ (e n : ℕ). tasks_from e n (drop 9 u)) block_edition block_count
      ∙ tasks_same (edition_of ts) (length ts) (drop 9 u) (drop 9 bits) (same_drop 9 u bits block_bits)
      ∙ tasks_back (edition_of ts) ts ranges floors (edition_carries ts)

  -- past its tasks they are zero
  block_closing : every (eqb 0) (closing_bits (plan_block ts)) ≡ true
  block_closing =
      at_every (eqb 0) (closing_bits (plan_block ts)) 0
      (λ k l. eq-eqb 0 (get_or (closing_bits (plan_block ts)) k 0) (sym (zero k)))
    where
      zero : (k : ℕ) → get_or (closing_bits (plan_block ts)) k 0 ≡ 0
      zero k =
          let u : List ℕ = unpacked (plan_block ts) in
          let m : ℕ = bit_count (edition_of ts) (length ts) in
          ap₂ (λ (e n : ℕ). get_or (drop (bit_count e n) u) k 0) block_edition block_count
          ∙ get_or-drop m u k 0
          ∙ block_bits (m + k)
          ∙ plan_bits_past (edition_of ts) ts (m + k) (omega arith)

  pub block_fine : (speeds : List ℕ) → 1 ≤ length ts → FineTasks speeds ts → FineBlock speeds (plan_block ts)
  block_fine speeds low fine =
      record {
        long = omega (arith, length-plan_block ts, block_length_least (edition_of ts) (length ts) low);
        edition_low = omega (arith, block_edition, edition_low ts);
        edition_high = omega (arith, block_edition, edition_high ts);
        count_low = omega (arith, block_count);
        count_high = omega (arith, block_count);
        size = length-plan_block ts ∙ sym (ap₂ (λ (e n : ℕ). block_length e n) block_edition block_count);
        closing = block_closing;
        tasks = subst (λ (l : List Task). FineTasks speeds l) (sym block_reads) fine;
        additions = ap₂ (λ (e : ℕ) (l : List Task). (addition_question e l).reply) block_edition block_reads ∙ edition_adds ts;
      }

-- a verdict is no refusal exactly if no question was answered no
module _ (speeds : List ℕ) (ts : List Task) where
  pub accepted_none : (n : ℕ) → is_accepted (verdict_answer (answered n speeds ts)) ≡ true → n ≡ 0
  accepted_none zero h = refl
  accepted_none (suc n) h = absurd (true≢false (sym h))

  pub none_accepted : (n : ℕ) → n ≡ 0 → is_accepted (verdict_answer (answered n speeds ts)) ≡ true
  none_accepted n e = ap (λ (k : ℕ). is_accepted (verdict_answer (answered k speeds ts))) e

-- the answer where there is no refusal
same_answer : (speeds : List ℕ) (m n : ℕ) (xs ys : List Task) → m ≡ 0 → n ≡ 0 → xs ≡ ys → judged_by m speeds xs ≡ judged_by n speeds ys
same_answer speeds m n xs ys p q e = ap₂ (λ (k : ℕ) (l : List Task). judged_by k speeds l) (p ∙ sym q) e

pub written_reads_back : WrittenReadsBack
written_reads_back levels p len accepted =
    let speeds : List ℕ = speeds_in levels in
    let ts : List Task = tasks_of p in
    let all : first_no (loading levels ++ judging speeds p.count ts) ≡ 0 =
    accepted_none speeds ts (first_no (loading levels ++ judging speeds p.count ts)) accepted in
    let h : first_no (judging speeds p.count ts) ≡ 0 = yes_after (loading levels) (judging speeds p.count ts) refl all in
    let f : FineList speeds p.count ts = fine_list speeds p.count ts h in
    let n : length ts ≡ p.count = length-take-le p.count p.tasks (omega (arith, f.count_high)) in
    let low : 1 ≤ length ts = omega (arith, f.count_low) in
    let high : length ts ≤ 16 = omega (arith, f.count_high) in
    let floors : every (floor_loaded 8) ts ≡ true =
    floors_among (length speeds) 8 ts (loaded_table levels (yes_of (loading levels) (judging speeds p.count ts) all)).few f.tasks.floors in
    same_answer speeds (first_no (loading levels ++ reading speeds (plan_block ts))) (first_no (loading levels ++ judging speeds p.count ts))
    (tasks_in (plan_block ts)) ts
    (yes_before (loading levels) (reading speeds (plan_block ts)) refl (yes_of (loading levels) (judging speeds p.count ts) all)
    ∙ block_yes speeds (plan_block ts) (block_fine ts high f.tasks.ranges floors speeds low f.tasks))
    all
    (block_reads ts high f.tasks.ranges floors)

-- tasks that are read in an edition without a field for it add nothing
plain_by : (second : Bool) (bits : List ℕ) → second ≡ false → adds_nothing (task_of (fields_from (widths_by second) bits)) ≡ true
plain_by true bits h = absurd (true≢false h)
plain_by false bits h = refl

pub plain_from : (edition n : ℕ) (bits : List ℕ) → eqb edition 2 ≡ false → every adds_nothing (tasks_from edition n bits) ≡ true
plain_from edition zero bits h = refl
plain_from edition (suc n) bits h =
    both_true (plain_by (eqb edition 2) bits h) (plain_from edition n (drop (task_width edition) bits) h)

-- an edition of 1 or 2 in which tasks add nothing exactly if it is 1 is the one that they are written in
pub edition_by_lem :
    (edition : ℕ) (plain : Bool) →
    1 ≤ edition →
    edition ≤ 2 →
    (eqb edition 2 ≡ false → plain ≡ true) →
    not (both (eqb edition 2) plain) ≡ true →
    edition_by plain ≡ edition
edition_by_lem edition plain low high one two =
    elim (test_eq edition 2) as (λ b _. (b ≡ false → plain ≡ true) → not (both b plain) ≡ true → edition_by plain ≡ edition) [
      | eq_yes e ↦ λ one two. ap edition_by (not-true plain two) ∙ sym e
      | eq_not ne ↦ λ one two. ap edition_by (one refl) ∙ last ne
    ]
    one two
  where
    last : (edition ≡ 2 → ⊥) → 1 ≡ edition
    last ne = omega arith

-- an accepted block: its tasks are written in the edition that it names, and their bits are the block's
module _ (speeds block : List ℕ) (f : FineBlock speeds block) where
  edition_kept : edition_of (tasks_in block) ≡ edition_in block
  edition_kept =
      edition_by_lem (edition_in block) (every adds_nothing (tasks_in block)) f.edition_low f.edition_high
      (plain_from (edition_in block) (count_in block) (drop 9 (unpacked block)))
      f.additions

  -- the header's bits, then the tasks'
  accepted_bits : plan_bits (edition_in block) (tasks_in block) ≡ take (used block) (unpacked block)
  accepted_bits =
      let u : List ℕ = unpacked block in
      let e : ℕ = edition_in block in
      let n : ℕ = count_in block in
      let m : ℕ = task_width e * n in
      let long : used block ≤ length u = omega (arith, length-unpacked block, f.size, block_length_covers e n) in
      let all : 4 + (5 + m) ≡ 9 + m = omega arith in
      ap (λ (k : ℕ). digits 2 4 e ++ (digits 2 5 k ++ tasks_bits e (tasks_in block))) (length-tasks_in block)
      ∙ ap₂ (λ (x y : List ℕ). x ++ y) (digits_number 2 4 u (omega arith) (λ k l. unpacked_below block k))
      (ap₂ (λ (x y : List ℕ). x ++ y)
      (digits_number 2 5 (drop 4 u) (simp length-drop (omega arith)) (λ k l. below_drop 4 u (unpacked_below block) k))
      (tasks_again e n (drop 9 u) (simp length-drop (omega arith)) (below_drop 9 u (unpacked_below block))
      ∙ ap (λ (x : List ℕ). take m x) (sym (drop-drop 5 4 u))))
      ∙ ap (λ (x : List ℕ). take 4 u ++ x) (sym (take-add 5 m (drop 4 u)))
      ∙ sym (take-add 4 (5 + m) u)
      ∙ ap (λ (k : ℕ). take k u) all

  -- past them the block's bits are zero too
  accepted_same : Same (plan_bits (edition_in block) (tasks_in block)) (unpacked block)
  accepted_same k =
      let u : List ℕ = unpacked block in
      let m : ℕ = used block in
      ap (λ (l : List ℕ). get_or l k 0) accepted_bits
      ∙ elim (dec_le (suc k) m) [
        | yes h ↦ get_or-take m u k 0 h
        | no h ↦
            let e : m + (k - m) ≡ k = omega arith in
            get_or-eq_default (take m u) 0 {n = k} (omega (arith, length-take m u))
            ∙ sym (zero_at (closing_bits block) f.closing (k - m))
            ∙ get_or-drop m u (k - m) 0
            ∙ ap (λ (j : ℕ). get_or u j 0) e
      ]

  -- so its bytes are those that they are written as
  pub accepted_block : Bytes block → plan_block (tasks_in block) ≡ block
  accepted_block bytes =
      let ts : List Task = tasks_in block in
      let bits : List ℕ = plan_bits (edition_in block) ts in
      let n : need 8 (length bits) ≡ length block =
      ap (λ (m : ℕ). need 8 m) (length-plan_bits (edition_in block) ts ∙ ap (λ (m : ℕ). bit_count (edition_in block) m) (length-tasks_in block))
      ∙ sym f.size in
      ap (λ (e : ℕ). packed (plan_bits e ts)) edition_kept
      ∙ ap (λ (m : ℕ). packed_to m bits) n
      ∙ packed_same (length block) bits (unpacked block) accepted_same
      ∙ packed-unpacked block bytes

-- the tasks of a plan made of a list
pub tasks_of-plan_of : (ts : List Task) → tasks_of (plan_of ts) ≡ ts
tasks_of-plan_of ts = take-append_seam ts (replicate (16 - length ts) no_task)

-- the plan of an accepted block passes the questions that judging puts
pub read_judged :
    (speeds block : List ℕ) (p : Plan) →
    first_no (reading speeds block) ≡ 0 →
    p ≡ plan_of (tasks_in block) →
    first_no (judging speeds p.count (tasks_of p)) ≡ 0
read_judged speeds block p accepted e =
    let ts : List Task = tasks_in block in
    ap (λ (q : Plan). first_no (judging speeds q.count (tasks_of q))) e
    ∙ ap (λ (l : List Task). first_no (judging speeds (length ts) l)) (tasks_of-plan_of ts)
    ∙ list_yes speeds (length ts) ts (block_list speeds block (fine_block speeds block accepted))

pub accepted_writes_back : AcceptedWritesBack
accepted_writes_back levels block bytes accepted =
    let speeds : List ℕ = speeds_in levels in
    let all : first_no (loading levels ++ reading speeds block) ≡ 0 =
    accepted_none speeds (tasks_in block) (first_no (loading levels ++ reading speeds block)) accepted in
    let h : first_no (reading speeds block) ≡ 0 = yes_after (loading levels) (reading speeds block) refl all in
    subst (λ (n : ℕ). plan_block (tasks_of (judged_by n speeds (tasks_in block)).plan) ≡ block) (sym all)
    (ap plan_block (tasks_of-plan_of (tasks_in block)) ∙ accepted_block speeds block (fine_block speeds block h) bytes)
