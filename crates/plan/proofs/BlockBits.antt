-- The plan block bit by bit, in any edition: how long it is, what stands at each place, and what is read from each place.
-- Assumes nothing.
use Prim.Native.Nat.{ℕ, zero, suc, ◌+◌, ◌-◌, ◌*◌, ◌/◌, ◌%◌, ◌^◌, ◌<◌, ◌≤◌}
use mathlib.Core.Path.{◌≡◌, refl, sym, subst, ap, ap₂, ◌∙◌}
use mathlib.Core.Bool.{Bool, true, false}
use mathlib.Core.List.{List, [], ◌∷◌, ◌++◌}
use native.Mathlib.Nat.{not-suc-le-zero, mul-le-mul, mul-le-mul_left, mul-suc}
use native.Mathlib.Omega.{arith}
use lib.Dec.{eqb}
use lib.ListN.{length, get_or, drop, length-append, get_or-eq_default}
use lib.Seq.{drop_at, drop-drop, get_or-drop}
use Rattle.arith.specs.Choice.{pick}
use Rattle.arith.specs.Need.{need}
use Rattle.arith.specs.Digits.{number, digits}
use Rattle.arith.specs.Bits.{width_of, fields_bits}
use Rattle.arith.proofs.Tests.{passed, failed, tested}
use Rattle.arith.proofs.ListLaws.{get_d_early}
use Rattle.arith.proofs.BitLaws.{length-packed, packed_at}
use Rattle.arith.proofs.FieldLaws.{Below, below_append, digits_below, field_bit, field_past, length_fields, fields_below}
use Rattle.plan.specs.declared.Task.{Task}
use Rattle.plan.specs.Blocks.{widths_by, task_widths, task_numbers, task_width, task_bits, tasks_bits, plan_bits, edition_of, plan_block, bit_count, block_length, edition_in, count_in, task_from, tasks_from, no_task}

-- where there is a bit past the worst case, the edition is 2
added_are : (second : Bool) (r : ℕ) → 36 ≤ r → r < width_of (widths_by second) → pick {A = List ℕ} second (8 ∷ 3 ∷ []) [] ≡ 8 ∷ 3 ∷ []
added_are true r low high = refl
added_are false r low high = absurd (omega arith)

module _ (edition : ℕ) where
  -- how wide a task is: it has its period and its worst case, and in edition 2 its additions
  pub width_least : 36 ≤ task_width edition
  width_least = omega arith

  pub width_most : task_width edition ≤ 47
  width_most = elim (tested (eqb edition 2)) as (λ b _. width_of (widths_by b) ≤ 47) [ passed ↦ omega arith | failed ↦ omega arith ]

  -- a task more
  pub bit_count_more : (i : ℕ) → bit_count edition (i + 1) ≡ bit_count edition i + task_width edition
  bit_count_more i = omega (arith, mul-suc (task_width edition) i)

  pub bit_count_mono : (m n : ℕ) → m ≤ n → bit_count edition m ≤ bit_count edition n
  bit_count_mono m n h = omega (arith, mul-le-mul_left (task_width edition) h)

  pub width_times : (n : ℕ) {w : ℕ} → w ≡ task_width edition → n ≤ 16 → w * n ≤ 752
  width_times n e h = subst (λ (k : ℕ). k * n ≤ 47 * 16) (sym e) (mul-le-mul width_most h)

  pub bit_count_most : (n : ℕ) → n ≤ 16 → bit_count edition n ≤ 761
  bit_count_most n h = omega (arith, width_times n refl h)

  -- a task that stands within so many bits has room for its fields, at a place that is read
  pub bit_count_room : (i bits : ℕ) → i < 16 → bit_count edition (i + 1) ≤ bits → (bit_count edition i ≤ 761) × (bit_count edition i + task_width edition ≤ bits)
  bit_count_room i bits h l =
      let more : bit_count edition (i + 1) ≡ bit_count edition i + task_width edition = bit_count_more i in
      (omega (arith, bit_count_most i (omega arith)), omega arith)

  -- how many bits there are
  pub length-task_bits : (t : Task) → length (task_bits edition t) ≡ task_width edition
  length-task_bits t = length_fields (task_widths edition) (task_numbers t)

  pub length-tasks_bits : (ts : List Task) → length (tasks_bits edition ts) ≡ task_width edition * length ts
  length-tasks_bits [] = omega arith
  length-tasks_bits (t ∷ ts) =
      length-append (task_bits edition t) (tasks_bits edition ts)
      ∙ omega (arith, length-task_bits t, length-tasks_bits ts, mul-suc (task_width edition) (length ts))

  pub length-plan_bits : (ts : List Task) → length (plan_bits edition ts) ≡ bit_count edition (length ts)
  length-plan_bits ts = omega (arith, length-tasks_bits ts)

  -- every one is 0 or 1
  tasks_bits_below : (ts : List Task) → Below (tasks_bits edition ts)
  tasks_bits_below [] = λ k. omega arith
  tasks_bits_below (t ∷ ts) =
      below_append (task_bits edition t) (tasks_bits edition ts) (fields_below (task_widths edition) (task_numbers t)) (tasks_bits_below ts)

  pub plan_bits_below : (ts : List Task) → Below (plan_bits edition ts)
  plan_bits_below ts =
      below_append (digits 2 4 edition) (digits 2 5 (length ts) ++ tasks_bits edition ts) (digits_below 4 edition)
      (below_append (digits 2 5 (length ts)) (tasks_bits edition ts) (digits_below 5 (length ts)) (tasks_bits_below ts))

  -- the bits from task i on
  pub tasks_bits_from :
      (ts : List Task) (i : ℕ) →
      i < length ts →
      drop (task_width edition * i) (tasks_bits edition ts) ≡ task_bits edition (get_or ts i no_task) ++ tasks_bits edition (drop (suc i) ts)
  tasks_bits_from [] i h = absurd (not-suc-le-zero h)
  tasks_bits_from (t ∷ ts) zero h =
      let e : task_width edition * 0 ≡ 0 = omega arith in
      ap (λ (n : ℕ). drop n (tasks_bits edition (t ∷ ts))) e
  tasks_bits_from (t ∷ ts) (suc i) h =
      let w : ℕ = task_width edition in
      let e : w * suc i ≡ w + w * i = omega (arith, mul-suc w i) in
      ap (λ (n : ℕ). drop n (tasks_bits edition (t ∷ ts))) e
      ∙ sym (drop-drop (w * i) w (tasks_bits edition (t ∷ ts)))
      ∙ ap (λ (l : List ℕ). drop (w * i) l) (drop_at (task_bits edition t) (tasks_bits edition ts) w (length-task_bits t))
      ∙ tasks_bits_from ts i (omega arith)

  pub plan_bits_from :
      (ts : List Task) (i : ℕ) →
      i < length ts →
      drop (bit_count edition i) (plan_bits edition ts) ≡ task_bits edition (get_or ts i no_task) ++ tasks_bits edition (drop (suc i) ts)
  plan_bits_from ts i h = sym (drop-drop (task_width edition * i) 9 (plan_bits edition ts)) ∙ tasks_bits_from ts i h

  -- the bit at a place: of the edition, of the count, of a task's period and worst case, and past the end
  module _ (ts : List Task) (k : ℕ) where
    pub plan_bits_edition : k < 4 → get_or (plan_bits edition ts) k 0 ≡ edition / 2 ^ (3 - k) % 2
    plan_bits_edition h = field_bit 4 edition (digits 2 5 (length ts) ++ tasks_bits edition ts) k h (omega arith)

    pub plan_bits_count : 4 ≤ k → k < 9 → get_or (plan_bits edition ts) k 0 ≡ length ts / 2 ^ (8 - k) % 2
    plan_bits_count low high =
        field_past 4 edition (digits 2 5 (length ts) ++ tasks_bits edition ts) k low
        ∙ field_bit 5 (length ts) (tasks_bits edition ts) (k - 4) (omega arith) (omega arith)

    pub plan_bits_past : bit_count edition (length ts) ≤ k → get_or (plan_bits edition ts) k 0 ≡ 0
    plan_bits_past h = get_or-eq_default (plan_bits edition ts) 0 {n = k} (omega (arith, length-plan_bits ts))

    -- bit r of task i
    module _ (i r : ℕ) (place : k ≡ bit_count edition i + r) (h : i < length ts) where
      plan_bits_task : r < task_width edition → get_or (plan_bits edition ts) k 0 ≡ get_or (task_bits edition (get_or ts i no_task)) r 0
      plan_bits_task l =
          let t : Task = get_or ts i no_task in
          ap (λ (j : ℕ). get_or (plan_bits edition ts) j 0) place
          ∙ sym (get_or-drop (bit_count edition i) (plan_bits edition ts) r 0)
          ∙ ap (λ (x : List ℕ). get_or x r 0) (plan_bits_from ts i h)
          ∙ get_d_early (task_bits edition t) (tasks_bits edition (drop (suc i) ts)) (task_width edition) r 0 (length-task_bits t) l

      pub plan_bits_period : r < 16 → get_or (plan_bits edition ts) k 0 ≡ (get_or ts i no_task).period / 2 ^ (15 - r) % 2
      plan_bits_period l =
          let t : Task = get_or ts i no_task in
          plan_bits_task (omega (arith, width_least))
          ∙ field_bit 16 t.period (fields_bits (drop 1 (task_widths edition)) (drop 1 (task_numbers t))) r l (omega arith)

      pub plan_bits_worst : 16 ≤ r → r < 36 → get_or (plan_bits edition ts) k 0 ≡ (get_or ts i no_task).worst / 2 ^ (35 - r) % 2
      plan_bits_worst low high =
          let t : Task = get_or ts i no_task in
          plan_bits_task (omega (arith, width_least))
          ∙ field_past 16 t.period (fields_bits (drop 1 (task_widths edition)) (drop 1 (task_numbers t))) r low
          ∙ field_bit 20 t.worst (fields_bits (drop 2 (task_widths edition)) (drop 2 (task_numbers t))) (r - 16) (omega arith) (omega arith)

      -- past its worst case stand the fields that edition 2 adds
      plan_bits_added :
          36 ≤ r →
          r < task_width edition →
          get_or (plan_bits edition ts) k 0 ≡ get_or (fields_bits (8 ∷ 3 ∷ []) (drop 2 (task_numbers (get_or ts i no_task)))) (r - 36) 0
      plan_bits_added low high =
          let t : Task = get_or ts i no_task in
          let e : r - 16 - 20 ≡ r - 36 = omega arith in
          plan_bits_task high
          ∙ field_past 16 t.period (fields_bits (drop 1 (task_widths edition)) (drop 1 (task_numbers t))) r (omega arith)
          ∙ field_past 20 t.worst (fields_bits (drop 2 (task_widths edition)) (drop 2 (task_numbers t))) (r - 16) (omega arith)
          ∙ ap₂ (λ (ws : List ℕ) (j : ℕ). get_or (fields_bits ws (drop 2 (task_numbers t))) j 0) (added_are (eqb edition 2) r low high) e

      pub plan_bits_fixed :
          36 ≤ r → r < 44 → r < task_width edition → get_or (plan_bits edition ts) k 0 ≡ (get_or ts i no_task).fixed / 2 ^ (43 - r) % 2
      plan_bits_fixed low high l =
          let t : Task = get_or ts i no_task in
          plan_bits_added low l ∙ field_bit 8 t.fixed (fields_bits (3 ∷ []) (t.floor ∷ [])) (r - 36) (omega arith) (omega arith)

      pub plan_bits_floor : 44 ≤ r → r < task_width edition → get_or (plan_bits edition ts) k 0 ≡ (get_or ts i no_task).floor / 2 ^ (46 - r) % 2
      plan_bits_floor low l =
          let t : Task = get_or ts i no_task in
          plan_bits_added (omega arith) l
          ∙ field_past 8 t.fixed (fields_bits (3 ∷ []) (t.floor ∷ [])) (r - 36) (omega arith)
          ∙ field_bit 3 t.floor [] (r - 36 - 8) (omega (arith, width_most)) (omega (arith, width_most))

  -- the tasks that bits are read as
  pub length-tasks_from : (n : ℕ) (bits : List ℕ) → length (tasks_from edition n bits) ≡ n
  length-tasks_from zero bits = refl
  length-tasks_from (suc n) bits = ap suc (length-tasks_from n (drop (task_width edition) bits))

  pub tasks_from_at :
      (n : ℕ) (bits : List ℕ) (i : ℕ) →
      i < n →
      get_or (tasks_from edition n bits) i no_task ≡ task_from edition (drop (task_width edition * i) bits)
  tasks_from_at zero bits i h = absurd (not-suc-le-zero h)
  tasks_from_at (suc n) bits zero h =
      let e : 0 ≡ task_width edition * 0 = omega arith in
      ap (λ (k : ℕ). task_from edition (drop k bits)) e
  tasks_from_at (suc n) bits (suc i) h =
      let w : ℕ = task_width edition in
      let e : w + w * i ≡ w * suc i = omega (arith, mul-suc w i) in
      tasks_from_at n (drop w bits) i (omega arith)
      ∙ ap (λ (l : List ℕ). task_from edition l) (drop-drop (w * i) w bits ∙ ap (λ (k : ℕ). drop k bits) e)

  -- how many bytes a block has: enough for its bits, with less than a byte to spare
  module _ (n : ℕ) where
    pub block_length_is : block_length edition n ≡ (16 + task_width edition * n) / 8
    unfolding need
    block_length_is = omega arith

    pub block_length_most : n ≤ 16 → block_length edition n ≤ 96
    block_length_most h = omega (arith, block_length_is, bit_count_most n h)

    pub block_length_covers : bit_count edition n ≤ 8 * block_length edition n
    block_length_covers = omega (arith, block_length_is)

    pub block_length_tight : 8 * block_length edition n < bit_count edition n + 8
    block_length_tight = omega (arith, block_length_is)

    -- with a task or more, two bytes and more
    pub block_length_least : 1 ≤ n → 2 ≤ block_length edition n
    block_length_least h = omega (arith, block_length_covers, mul-le-mul width_least h)

-- 01: "6 bytes for one task, 74 for sixteen"
pub block_length_one : block_length 1 1 ≡ 6
unfolding need
block_length_one = refl

pub block_length_sixteen : block_length 1 16 ≡ 74
unfolding need
block_length_sixteen = refl

-- in edition 2
pub block_length_one_2 : block_length 2 1 ≡ 7
unfolding need
block_length_one_2 = refl

pub block_length_sixteen_2 : block_length 2 16 ≡ 96
unfolding need
block_length_sixteen_2 = refl

module _ (ts : List Task) where
  pub length-plan_block : length (plan_block ts) ≡ block_length (edition_of ts) (length ts)
  length-plan_block =
      length-packed (need 8 (length (plan_bits (edition_of ts) ts))) (plan_bits (edition_of ts) ts)
      ∙ ap (λ (n : ℕ). need 8 n) (length-plan_bits (edition_of ts) ts)

  -- byte j is made of the eight bits from 8 * j on
  pub plan_block_at :
      (j : ℕ) →
      j < block_length (edition_of ts) (length ts) →
      get_or (plan_block ts) j 0 ≡ number 2 8 (drop (8 * j) (plan_bits (edition_of ts) ts))
  plan_block_at j h =
      packed_at (need 8 (length (plan_bits (edition_of ts) ts))) (plan_bits (edition_of ts) ts) j
      (subst (λ (n : ℕ). j < need 8 n) (sym (length-plan_bits (edition_of ts) ts)) h)

-- how many bits of a block its tasks end at
abbrev pub used : List ℕ → ℕ
used block = bit_count (edition_in block) (count_in block)
