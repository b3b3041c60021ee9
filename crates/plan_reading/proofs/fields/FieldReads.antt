-- The fields of a plan block: what is read at each place, and whether a task adds anything.
-- Assumes nothing.
use Prim.Native.Nat.{ℕ, ◌+◌, ◌*◌, ◌<◌, ◌≤◌}
use mathlib.Core.Bool.{Bool, true, false}
use mathlib.Core.Path.{◌≡◌, refl, sym, ap, ◌∙◌}
use mathlib.Core.List.{List}
use native.Mathlib.Omega.{arith}
use borrow.Author.Tests.{eq-eqb, eqb-true, ne_eqb}
use lib.Dec.{eqb}
use lib.ListN.{length, get_or, drop}
use lib.Seq.{drop-drop, take_all}
use Rattle.arith.specs.Choice.{pick, both, every}
use Rattle.arith.specs.Digits.{number}
use Rattle.arith.specs.Bits.{width_of, fields_from}
use Rattle.plan.specs.declared.Task.{Task}
use Rattle.plan.specs.declared.Plan.{Plan}
use Rattle.plan.specs.Blocks.{widths_by, task_of, task_width, bit_count, task_from, tasks_from, adds_nothing, plan_of, no_task}
use Rattle.judging.proofs.verdicts.Judgements.{Filled, filled_all}
use Rattle.arith.proofs.ListLaws.{every_at, at_every}
use Rattle.arith.proofs.Tests.{both_true, both_left, both_right, passed, failed, tested}
use Rattle.plan.proofs.BlockBits.{length-tasks_from, tasks_from_at}

-- a field, by how far it stands into the task at a place
into : (n past at : ℕ) (bits : List ℕ) {x : ℕ} → x ≡ number 2 n (drop (at + past) bits) → x ≡ number 2 n (drop past (drop at bits))
into n past at bits e = e ∙ sym (ap (λ (l : List ℕ). number 2 n l) (drop-drop past at bits))

-- the width of a task in edition 1, and in edition 2
pub width_plain : (edition : ℕ) → (edition ≡ 2 → ⊥) → 36 ≡ task_width edition
width_plain edition not-two = sym (ap (λ (b : Bool). width_of (widths_by b)) (ne_eqb edition 2 not-two))

pub width_added : (edition : ℕ) → edition ≡ 2 → 47 ≡ task_width edition
width_added edition two = sym (ap task_width two)

-- the fields that only edition 2 has
module _ (edition at : ℕ) (bits : List ℕ) {x : ℕ} where
  pub fixed_added : x ≡ pick (eqb edition 2) (number 2 8 (drop (at + 36) bits)) 0 → x ≡ (task_from edition (drop at bits)).fixed
  fixed_added =
      elim (tested (eqb edition 2))
      as (λ b _. x ≡ pick b (number 2 8 (drop (at + 36) bits)) 0 → x ≡ (task_of (fields_from (widths_by b) (drop at bits))).fixed) [
        | passed ↦ λ e. into 8 36 at bits e ∙ ap (λ (m : List ℕ). number 2 8 m) (sym (drop-drop 20 16 (drop at bits)))
        | failed ↦ λ e. e
      ]

  pub floor_added : x ≡ pick (eqb edition 2) (number 2 3 (drop (at + 44) bits)) 0 → x ≡ (task_from edition (drop at bits)).floor
  floor_added =
      elim (tested (eqb edition 2))
      as (λ b _. x ≡ pick b (number 2 3 (drop (at + 44) bits)) 0 → x ≡ (task_of (fields_from (widths_by b) (drop at bits))).floor) [
        | passed ↦ λ e.
            into 3 44 at bits e
            ∙ ap (λ (m : List ℕ). number 2 3 m) (sym (drop-drop 8 36 (drop at bits)) ∙ ap (λ (m : List ℕ). drop 8 m) (sym (drop-drop 20 16 (drop at bits))))
        | failed ↦ λ e. e
      ]

-- a task read at its place
pub task_read :
    (edition i : ℕ) (bits : List ℕ) {at p w f g : ℕ} →
    at ≡ bit_count edition i →
    p ≡ number 2 16 (drop at bits) →
    w ≡ number 2 20 (drop (at + 16) bits) →
    f ≡ pick (eqb edition 2) (number 2 8 (drop (at + 36) bits)) 0 →
    g ≡ pick (eqb edition 2) (number 2 3 (drop (at + 44) bits)) 0 →
    ◌≡◌ {A = Task} (record { period = p; worst = w; fixed = f; floor = g }) (task_from edition (drop (bit_count edition i) bits))
task_read edition i bits {at} {p} {w} {f} {g} e a b c d =
    let later : w ≡ number 2 20 (drop 16 (drop at bits)) = into 20 16 at bits b in
    let read : ◌≡◌ {A = Task} (record { period = p; worst = w; fixed = f; floor = g }) (task_from edition (drop at bits)) =
    λ j. record { period = a j; worst = later j; fixed = fixed_added edition at bits c j; floor = floor_added edition at bits d j } in
    read ∙ ap (λ (k : ℕ). task_from edition (drop k bits)) e

-- a plan filled from the front with the tasks of a block
module _ (edition : ℕ) (bits : List ℕ) (count : ℕ) where
  abbrev pub tasks_at : List Task
  tasks_at = tasks_from edition count (drop 9 bits)

  pub tasks_listed : count ≤ length tasks_at
  tasks_listed = omega (arith, length-tasks_from edition count (drop 9 bits))

  pub task_from_lem : {i : ℕ} {t : Task} → i < count → t ≡ task_from edition (drop (bit_count edition i) bits) → t ≡ get_or tasks_at i no_task
  task_from_lem {i} h e =
      e
      ∙ ap (λ (x : List ℕ). task_from edition x) (sym (drop-drop (task_width edition * i) 9 bits))
      ∙ sym (tasks_from_at edition count (drop 9 bits) i h)

  pub plan_read : {q : Plan} {i : ℕ} → Filled tasks_at count q i → count ≤ i → q ≡ plan_of tasks_at
  plan_read at h =
      filled_all at tasks_listed h
      ∙ ap (λ (x : List Task). plan_of x) (take_all count tasks_at (omega (arith, length-tasks_from edition count (drop 9 bits))))

-- whether tasks add nothing, by their fields
abbrev Plain : List Task → Type 0
Plain ts = (k : ℕ) → k < length ts → ((get_or ts k no_task).fixed ≡ 0) × ((get_or ts k no_task).floor ≡ 0)

module _ (ts : List Task) where
  pub adds_none : Plain ts → every adds_nothing ts ≡ true
  adds_none h =
      at_every adds_nothing ts no_task (λ k l. let t = h k l in both_true (eq-eqb (get_or ts k no_task).fixed 0 t.0) (eq-eqb (get_or ts k no_task).floor 0 t.1))

  pub adds_some : (Plain ts → ⊥) → every adds_nothing ts ≡ false
  adds_some n =
      elim (tested (every adds_nothing ts))
      as (λ b _. every adds_nothing ts ≡ b → b ≡ false) [
        | passed ↦ λ e. absurd (n (λ k l.
            let t : Task = get_or ts k no_task in
            let plain : both (eqb t.fixed 0) (eqb t.floor 0) ≡ true = every_at adds_nothing ts k no_task e l in
            (eqb-true t.fixed 0 (both_left (eqb t.fixed 0) (eqb t.floor 0) plain), eqb-true t.floor 0 (both_right (eqb t.fixed 0) (eqb t.floor 0) plain))))
        | failed ↦ λ e. refl
      ]
      refl
