-- What choosing an order, and a pass, make of a state: its clock, each of its entries and its speeds.
-- Assumes nothing.
use Prim.Native.Nat.{ℕ, ◌+◌, ◌%◌, ◌<◌}
use mathlib.Core.Path.{◌≡◌, refl, ap, ◌∙◌}
use mathlib.Core.Bool.{Bool}
use mathlib.Core.List.{List}
use mathlib.Core.Logic.{◌≢◌}
use lib.Dec.{eqb}
use lib.ListN.{get_or}
use Rattle.arith.specs.Choice.{pick}
use Rattle.arith.specs.Ranges.{list_to}
use Rattle.arith.proofs.Tests.{eq_yes, eq_not, test_eq, passed, failed, tested}
use Rattle.arith.proofs.RangeLaws.{get_d_list_to}
use Rattle.plan.specs.Times.{whole}
use Rattle.plan.specs.Blocks.{no_task}
use Rattle.schedule.specs.PlainSchedule.{Timing}
use Rattle.reclaiming.specs.declared.Entry.{Entry}
use Rattle.reclaiming.specs.Passes.{chooses_anew}
use Rattle.reclaiming.specs.StateBlock.{State, no_entry, remaining_of, rest_in, rest_of, plan_in}
use Rattle.reclaiming.specs.States.{chosen_state, passed_state, moved_state, new_entry, aged_entry, entry_after, worked_of, drained_of, view_of}

-- choosing an order leaves the clock, the entries, the speeds and the total
module _ (speeds : List ℕ) (τ : Timing) where
  pub choose_clock : (s : State) → (chosen_state speeds τ s).clock ≡ s.clock
  choose_clock s = refl

  pub choose_entries : (s : State) → (chosen_state speeds τ s).entries ≡ s.entries
  choose_entries s = refl

  pub choose_speeds : (s : State) → (chosen_state speeds τ s).speeds ≡ s.speeds
  choose_speeds s = refl

  pub choose_total : (s : State) → (chosen_state speeds τ s).total ≡ s.total
  choose_total s = refl

  module _ (s : State) (d : ℕ) (finished : Bool) where
    abbrev next : State
    next = passed_state speeds τ s d finished

    abbrev moved : State
    moved = moved_state speeds τ s d finished

    pub passed_clock : next.clock ≡ s.clock + d
    passed_clock =
        elim (tested (chooses_anew τ (view_of s) d finished)) as (λ b _. (pick b (chosen_state speeds τ moved) moved).clock ≡ s.clock + d)
        [ passed ↦ choose_clock moved | failed ↦ refl ]

    pub passed_entries : next.entries ≡ list_to τ.count (entry_after speeds τ s d finished)
    passed_entries =
        elim (tested (chooses_anew τ (view_of s) d finished)) as (λ b _. (pick b (chosen_state speeds τ moved) moved).entries ≡ list_to τ.count (entry_after speeds τ s d finished))
        [ passed ↦ choose_entries moved | failed ↦ refl ]

    pub passed_speeds : next.speeds ≡ s.speeds
    passed_speeds =
        elim (tested (chooses_anew τ (view_of s) d finished)) as (λ b _. (pick b (chosen_state speeds τ moved) moved).speeds ≡ s.speeds)
        [ passed ↦ choose_speeds moved | failed ↦ refl ]

    module _ (i : ℕ) (h : i < τ.count) where
      pub passed_entry : get_or next.entries i no_entry ≡ entry_after speeds τ s d finished i
      passed_entry =
          ap (λ (l : List Entry). get_or l i no_entry) passed_entries
          ∙ get_d_list_to τ.count (entry_after speeds τ s d finished) i no_entry h

      -- where a job arrives it is new
      pub new_rest_lem : (s.clock + d) % τ.period i ≡ 0 → rest_of next i ≡ whole (get_or (plan_in s) i no_task)
      new_rest_lem z =
          ap rest_in passed_entry
          ∙ elim (test_eq ((s.clock + d) % τ.period i) 0)
          as (λ b _. rest_in (pick {A = Entry} b (new_entry τ (plan_in s) i) (aged_entry speeds τ s d finished i)) ≡ whole (get_or (plan_in s) i no_task))
          [ eq_yes e ↦ refl | eq_not e ↦ absurd (e z) ]

      -- elsewhere it is what the ticks left of the old one
      pub old_rest : (s.clock + d) % τ.period i ≢ 0 → rest_of next i ≡ worked_of speeds s d finished i
      old_rest z =
          ap rest_in passed_entry
          ∙ elim (test_eq ((s.clock + d) % τ.period i) 0)
          as (λ b _. rest_in (pick {A = Entry} b (new_entry τ (plan_in s) i) (aged_entry speeds τ s d finished i)) ≡ worked_of speeds s d finished i)
          [ eq_yes e ↦ absurd (z e) | eq_not e ↦ refl ]

      -- both in one
      pub passed_rest :
          rest_of next i ≡ pick (eqb ((s.clock + d) % τ.period i) 0) (whole (get_or (plan_in s) i no_task)) (worked_of speeds s d finished i)
      passed_rest =
          ap rest_in passed_entry
          ∙ elim (tested (eqb ((s.clock + d) % τ.period i) 0))
          as (λ b _. rest_in (pick {A = Entry} b (new_entry τ (plan_in s) i) (aged_entry speeds τ s d finished i)) ≡ pick b (whole (get_or (plan_in s) i no_task)) (worked_of speeds s d finished i))
          [ passed ↦ refl | failed ↦ refl ]

      pub passed_remaining : remaining_of next i ≡ pick (eqb ((s.clock + d) % τ.period i) 0) (τ.allotment i) (drained_of τ s d i)
      passed_remaining =
          ap (λ (e : Entry). e.remaining) passed_entry
          ∙ elim (tested (eqb ((s.clock + d) % τ.period i) 0))
          as (λ b _. (pick {A = Entry} b (new_entry τ (plan_in s) i) (aged_entry speeds τ s d finished i)).remaining ≡ pick b (τ.allotment i) (drained_of τ s d i))
          [ passed ↦ refl | failed ↦ refl ]
