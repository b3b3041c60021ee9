-- The image in which every task has a new job, made entry by entry.
-- Assumes nothing.
use Prim.Native.Nat.{ℕ, ◌+◌, ◌*◌, ◌<◌, ◌≤◌}
use mathlib.Core.Path.{◌≡◌, refl, sym, ap, ap₂, ◌∙◌}
use mathlib.Core.List.{List, ◌++◌, append_assoc}
use native.Mathlib.Numerals.{add-one}
use native.Mathlib.Omega.{arith}
use lib.ListN.{length, get_or, replicate}
use lib.Seq.{sets, get_or-take}
use Rattle.arith.specs.Sum.{sum_to}
use Rattle.arith.proofs.Sums.{sum_to_eq}
use Rattle.plan.specs.declared.Task.{Task}
use Rattle.plan.specs.declared.Rest.{Rest}
use Rattle.plan.specs.declared.Plan.{Plan}
use Rattle.plan.specs.Times.{whole, task_time}
use Rattle.plan.specs.Blocks.{no_task, tasks_of}
use Rattle.plan.proofs.TimeLaws.{task_short}
use Rattle.plan.proofs.Held.{Ranged, count_is, task_at_lem}
use Rattle.reclaiming.specs.declared.Entry.{Entry}
use Rattle.reclaiming.specs.Allotments.{timing_at}
use Rattle.reclaiming.specs.Fields.{fields_bytes, fields_length}
use Rattle.reclaiming.specs.StateBlock.{head_fields, tail_fields, end_fields, tail_at, entry_length, State, no_entry, entry_with, entry_bytes, task_field, count_field, state_length, encode, places}
use Rattle.reclaiming.specs.States.{new_entry}
use Rattle.state.specs.Code.{entry_at, head_stored, with_total, total_stored}
use Rattle.state.specs.Tables.{table_bytes}
use Rattle.starting.specs.Image.{new_state}
use Rattle.reclaiming.proofs.FieldLaws.{sets_over}
use Rattle.reclaiming.proofs.Soundness.{queued_places}
use Rattle.arith.proofs.RangeLaws.{length-list_to, get_d_list_to}
use Rattle.state.proofs.BlockLaws.{stored_to, stored_size, stored_more, stored_all, store_total}

-- the state on its way there: its total is not stored yet
abbrev unsummed : List ℕ → ℕ → Plan → State
unsummed speeds speed p = with_total (new_state speeds speed (tasks_of p)) 0

-- the allotment of task i
abbrev allotment_of : ℕ → Plan → ℕ → ℕ
allotment_of speed p i = task_time speed (get_or (tasks_of p) i no_task)

-- an image on its way: its first i entries are stored, and their allotments summed
pub record Making (speeds : List ℕ) (speed : ℕ) (p : Plan) (image : List ℕ) (total i : ℕ) : Type 0 where
  pub plan : Ranged p
  pub below : i ≤ p.count
  pub size : length image ≡ state_length
  pub bytes : image ≡ stored_to (unsummed speeds speed p) i
  pub sums : total ≡ sum_to i (allotment_of speed p)
  pub small : total ≤ 1048830 * i

module _ (speeds : List ℕ) (speed : ℕ) {p : Plan} (plan : Ranged p) where
  abbrev made : List Entry
  made = (new_state speeds speed (tasks_of p)).entries

  made_are : length made ≡ p.count
  made_are = length-list_to (length (tasks_of p)) (new_entry (timing_at speed (tasks_of p)) (tasks_of p)) ∙ count_is plan.held

  making :
      (i : ℕ) (image : List ℕ) (total : ℕ) →
      i ≤ p.count →
      image ≡ stored_to (unsummed speeds speed p) i →
      total ≡ sum_to i (allotment_of speed p) →
      total ≤ 1048830 * i →
      Making speeds speed p image total i
  making i image total h e f small = record {
    plan = plan;
    below = h;
    size = ap length e ∙ stored_size (unsummed speeds speed p) i (omega (arith, plan.held.most)) (omega (arith, made_are));
    bytes = e;
    sums = f;
    small = small;
  }

  -- before the table and the entries all is zero but for the task and the count
  abbrev blank_bytes : ℕ → List ℕ
  blank_bytes n = head_stored (head_stored (replicate state_length 0) task_field 255) count_field n

  pub making_none : {image : List ℕ} → image ≡ sets (blank_bytes p.count) tail_at (table_bytes speeds) → Making speeds speed p image 0 0
  making_none {image} e =
      let N : State = unsummed speeds speed p in
      let head : List ℕ = fields_bytes head_fields N in
      let tail : List ℕ = fields_bytes tail_fields N in
      let end : List ℕ = fields_bytes end_fields N in
      let free : List ℕ = replicate (entry_length * places) 0 in
      making 0 image 0 (omega arith)
      (e
      ∙ ap (λ (n : ℕ). sets (blank_bytes n) tail_at tail) (sym made_are)
      ∙ sets_over (head ++ free) (replicate (fields_length tail_fields) 0) end tail tail_at refl refl
      ∙ append_assoc head free (tail ++ end))
      refl
      (omega arith)

module _ {speeds : List ℕ} {speed : ℕ} {p : Plan} {image : List ℕ} {total i : ℕ} (so_far : Making speeds speed p image total i) where
  -- task i's allotment is short of what is left of a number of 32 bits
  pub ticks_small : i < p.count → 0 < speed → {ticks : ℕ} → ticks ≡ task_time speed (get_or p.tasks i no_task) → ticks ≤ 1048830
  ticks_small h fast e =
      omega (arith, e, task_short speed (get_or p.tasks i no_task) fast (task_at_lem so_far.plan i h))

  pub making_more :
      {rest : Rest} {ticks : ℕ} {m : List ℕ} →
      i < p.count →
      0 < speed →
      rest ≡ whole (get_or p.tasks i no_task) →
      ticks ≡ task_time speed (get_or p.tasks i no_task) →
      m ≡ sets image (entry_at i) (entry_bytes (entry_with (get_or p.tasks i no_task) rest ticks)) →
      Making speeds speed p m (total + ticks) (i + 1)
  making_more {rest} {ticks} {m} h fast full e s =
      let ts : List Task = tasks_of p in
      let es : List Entry = made speeds speed so_far.plan in
      let f : ℕ → Entry = new_entry (timing_at speed ts) ts in
      let same : get_or p.tasks i no_task ≡ get_or ts i no_task = sym (get_or-take p.count p.tasks i no_task h) in
      let rest_is : rest ≡ whole (get_or ts i no_task) = full ∙ ap whole same in
      let ticks-is : ticks ≡ task_time speed (get_or ts i no_task) = e ∙ ap (task_time speed) same in
      let new : entry_with (get_or p.tasks i no_task) rest ticks ≡ f i = λ j. entry_with (same j) (rest_is j) (ticks-is j) in
      let at : f i ≡ get_or es i no_entry = sym (get_d_list_to (length ts) f i no_entry (omega (arith, count_is so_far.plan.held))) in
      making speeds speed so_far.plan (i + 1) m (total + ticks) (omega arith)
      (stored_more (unsummed speeds speed p) i image m (omega (arith, so_far.plan.held.most)) (omega (arith, made_are speeds speed so_far.plan)) so_far.bytes
      (s ∙ ap (λ (x : Entry). sets image (entry_at i) (entry_bytes x)) (new ∙ at)))
      (ap₂ ◌+◌ so_far.sums ticks-is ∙ ap (λ (n : ℕ). sum_to n (allotment_of speed p)) (sym (add-one i)))
      (omega (arith, so_far.small, ticks_small h fast e))

  -- the allotments of all come to the total of the state
  all_summed : i ≡ p.count → total ≡ (new_state speeds speed (tasks_of p)).total
  all_summed e =
      let ts : List Task = tasks_of p in
      let es : List Entry = made speeds speed so_far.plan in
      so_far.sums
      ∙ ap (λ (n : ℕ). sum_to n (allotment_of speed p)) (e ∙ sym (count_is so_far.plan.held))
      ∙ sum_to_eq (length ts) (allotment_of speed p) (λ j. (get_or es j no_entry).remaining)
      (λ j h. ap (λ (x : Entry). x.remaining) (sym (get_d_list_to (length ts) (new_entry (timing_at speed ts) ts) j no_entry h)))
      ∙ sym (queued_places (new_state speeds speed ts) (length-list_to (length ts) (new_entry (timing_at speed ts) ts)))

  pub making_all : p.count ≤ i → {m : List ℕ} → m ≡ total_stored image total → m ≡ encode (new_state speeds speed (tasks_of p))
  making_all h {m} e =
      let N : State = unsummed speeds speed p in
      let n : i ≡ p.count = omega (arith, so_far.below) in
      let all : length N.entries ≡ p.count = made_are speeds speed so_far.plan in
      e
      ∙ ap₂ total_stored (so_far.bytes ∙ stored_all N i (omega (arith, all))) (all_summed n)
      ∙ store_total N (new_state speeds speed (tasks_of p)).total (omega (arith, all, so_far.plan.held.most))
