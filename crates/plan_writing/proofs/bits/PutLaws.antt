-- What each bit and each byte of a plan's block is, and what storing them from the front leaves.
-- Assumes nothing.
use Prim.Native.Nat.{ℕ, ◌+◌, ◌-◌, ◌*◌, ◌/◌, ◌%◌, ◌^◌, ◌<◌, ◌≤◌}
use mathlib.Core.Path.{◌≡◌, refl, sym, subst, ap, ap₂, ◌∙◌}
use mathlib.Core.List.{List, ◌++◌}
use native.Mathlib.Nat.{mod-add-div', mod-lt, mul_comm}
use native.Mathlib.Numerals.{add-one}
use native.Mathlib.Omega.{arith}
use lib.ListN.{length, get_or, drop, set, length-set}
use lib.Seq.{get_or-take, take_all, paste, paste-zero, paste-suc}
use Rattle.arith.specs.Digits.{number}
use Rattle.plan.specs.declared.Task.{Task}
use Rattle.plan.specs.declared.Plan.{Plan}
use Rattle.plan.specs.Blocks.{task_width, bit_count, plan_bits, edition_of, plan_block, block_length, tasks_of, no_task}
use Rattle.plan.specs.Answers.{stored_by}
use Rattle.plan.proofs.Held.{Held, count_is}
use Rattle.plan.proofs.BlockBits.{plan_bits_edition, plan_bits_count, plan_bits_period, plan_bits_worst, plan_bits_fixed, plan_bits_floor, plan_bits_past}
use Rattle.plan.proofs.BlockBits.{width_least, bit_count_mono, length-plan_block, plan_block_at}

-- the length of a plan's block, and the block's byte j
module _ {p : Plan} (plan : Held p) {edition : ℕ} (e : edition ≡ edition_of (tasks_of p)) where
  pub plan_block-length : length (plan_block (tasks_of p)) ≡ block_length edition p.count
  plan_block-length = length-plan_block (tasks_of p) ∙ ap₂ (λ (x n : ℕ). block_length x n) (sym e) (count_is plan)

  pub plan_block_byte :
      {j x : ℕ} →
      j < block_length edition p.count →
      x ≡ number 2 8 (drop (8 * j) (plan_bits edition (tasks_of p))) →
      x ≡ get_or (plan_block (tasks_of p)) j 0
  plan_block_byte {j} h b =
      b
      ∙ ap (λ (x : ℕ). number 2 8 (drop (8 * j) (plan_bits x (tasks_of p)))) e
      ∙ sym (plan_block_at (tasks_of p) j (subst (λ (n : ℕ). j < n) (sym plan_block-length ∙ length-plan_block (tasks_of p)) h))

-- bit k of a plan's bits: of the edition, and of the count
pub bit_edition : (edition : ℕ) (ts : List Task) {k x : ℕ} → k < 4 → x ≡ edition / 2 ^ (3 - k) % 2 → x ≡ get_or (plan_bits edition ts) k 0
bit_edition edition ts {k} h e = e ∙ sym (plan_bits_edition edition ts k h)

pub bit_count_lem :
    {p : Plan} → Held p → (edition : ℕ) {k x : ℕ} → 4 ≤ k → k < 9 → x ≡ p.count / 2 ^ (8 - k) % 2 → x ≡ get_or (plan_bits edition (tasks_of p)) k 0
bit_count_lem {p} plan edition {k} low high e =
    e
    ∙ sym (ap (λ (n : ℕ). n / 2 ^ (8 - k) % 2) (count_is plan))
    ∙ sym (plan_bits_count edition (tasks_of p) k low high)

-- bit k is bit r of task i, where there is such a task
pub record AtTask (p : Plan) (edition k i r : ℕ) : Type 0 where
  pub plan : Held p
  pub place : k ≡ bit_count edition i + r

pub at_task :
    {p : Plan} → Held p → (edition k : ℕ) {width : ℕ} → width ≡ task_width edition → 9 ≤ k → AtTask p edition k ((k - 9) / width) ((k - 9) % width)
at_task plan edition k {width} e low =
    let i : ℕ = (k - 9) / width in
    let whole : task_width edition * i ≡ i * width = ap (λ (w : ℕ). w * i) (sym e) ∙ mul_comm width i in
    record { plan = plan; place = omega (arith, mod-add-div' (k - 9) width) }

-- and r is a place in it
pub rest_below : (edition x : ℕ) {width : ℕ} → width ≡ task_width edition → x % width < task_width edition
rest_below edition x e = subst (λ (w : ℕ). x % w < task_width edition) (sym e) (mod-lt x (omega (arith, width_least edition)))

module _ {p : Plan} {edition k i r : ℕ} (b : AtTask p edition k i r) where
  pub bit_past : p.count ≤ i → 0 ≡ get_or (plan_bits edition (tasks_of p)) k 0
  bit_past h =
      sym (plan_bits_past edition (tasks_of p) k (omega (arith, b.place, bit_count_mono edition (length (tasks_of p)) i (omega (arith, count_is b.plan)))))

  module _ (below : i < p.count) where
    here : get_or (tasks_of p) i no_task ≡ get_or p.tasks i no_task
    here = get_or-take p.count p.tasks i no_task below

    inside : i < length (tasks_of p)
    inside = omega (arith, count_is b.plan)

    pub bit_period : {x : ℕ} → r < 16 → x ≡ (get_or p.tasks i no_task).period / 2 ^ (15 - r) % 2 → x ≡ get_or (plan_bits edition (tasks_of p)) k 0
    bit_period l e =
        e
        ∙ sym (ap (λ (t : Task). t.period / 2 ^ (15 - r) % 2) here)
        ∙ sym (plan_bits_period edition (tasks_of p) k i r b.place inside l)

    pub bit_worst : {x : ℕ} → 16 ≤ r → r < 36 → x ≡ (get_or p.tasks i no_task).worst / 2 ^ (35 - r) % 2 → x ≡ get_or (plan_bits edition (tasks_of p)) k 0
    bit_worst low high e =
        e
        ∙ sym (ap (λ (t : Task). t.worst / 2 ^ (35 - r) % 2) here)
        ∙ sym (plan_bits_worst edition (tasks_of p) k i r b.place inside low high)

    -- past the worst case, where the edition has such a bit
    module _ (within : r < task_width edition) where
      pub bit_fixed : {x : ℕ} → 36 ≤ r → r < 44 → x ≡ (get_or p.tasks i no_task).fixed / 2 ^ (43 - r) % 2 → x ≡ get_or (plan_bits edition (tasks_of p)) k 0
      bit_fixed low high e =
          e
          ∙ sym (ap (λ (t : Task). t.fixed / 2 ^ (43 - r) % 2) here)
          ∙ sym (plan_bits_fixed edition (tasks_of p) k i r b.place inside low high within)

      pub bit_floor : {x : ℕ} → 44 ≤ r → x ≡ (get_or p.tasks i no_task).floor / 2 ^ (46 - r) % 2 → x ≡ get_or (plan_bits edition (tasks_of p)) k 0
      bit_floor low e =
          e
          ∙ sym (ap (λ (t : Task). t.floor / 2 ^ (46 - r) % 2) here)
          ∙ sym (plan_bits_floor edition (tasks_of p) k i r b.place inside low within)

-- bytes stored from the front, one a turn
pub record Stored (bytes buffer m : List ℕ) (j : ℕ) : Type 0 where
  pub room : length bytes ≤ length buffer
  pub within : j ≤ length bytes
  pub same : length m ≡ length buffer
  pub pasted : m ≡ paste buffer 0 bytes j

pub stored_none : {bytes buffer : List ℕ} → length bytes ≤ length buffer → Stored bytes buffer buffer 0
stored_none {bytes} {buffer} h =
    record { room = h; within = omega arith; same = refl; pasted = paste-zero buffer 0 bytes }

module _ {bytes buffer m : List ℕ} {j : ℕ} (at : Stored bytes buffer m j) where
  pub stored_more : {x : ℕ} → j < length bytes → x ≡ get_or bytes j 0 → Stored bytes buffer (set m j x) (j + 1)
  stored_more {x} h v =
      let z : j ≡ 0 + j = omega arith in
      record {
        room = at.room;
        within = omega arith;
        same = length-set m j x ∙ at.same;
        pasted =
            ap₂ (λ (l : List ℕ) (y : ℕ). set l j y) at.pasted v
            ∙ ap (λ (i : ℕ). set (paste buffer 0 bytes j) i (get_or bytes j 0)) z
            ∙ paste-suc buffer 0 bytes j 0 (omega arith) h
            ∙ sym (ap (λ (i : ℕ). paste buffer 0 bytes i) (add-one j));
      }

  pub stored_all : length bytes ≤ j → m ≡ stored_by 0 bytes buffer
  stored_all h =
      let all : j ≡ length bytes = omega arith in
      let z : 0 + length bytes ≡ length bytes = omega arith in
      at.pasted
      ∙ ap (λ (i : ℕ). paste buffer 0 bytes i) all
      ∙ ap₂ (λ (l : List ℕ) (i : ℕ). l ++ drop i buffer) (take_all (length bytes) bytes (omega arith)) z
