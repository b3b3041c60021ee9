-- What it means that a job is the only open one, and what its allowance is then.
-- Assumes nothing.
use Prim.Native.Nat.{ℕ, ◌≤◌, ◌<◌, max}
use mathlib.Core.Path.{◌≡◌, refl, sym, ap, ◌∙◌}
use mathlib.Core.Bool.{Bool, true, false, false≢true, not}
use mathlib.Core.Logic.{◌≢◌, ◌⊎◌, inl, inr}
use native.Mathlib.Decide.{dec_le}
use native.Mathlib.Omega.{arith}
use borrow.Author.Tests.{le-leb, lt-leb, eqb-true, ne_eqb, not-true, not-false}
use lib.Dec.{leb, eqb}
use Rattle.arith.specs.Choice.{pick, both}
use Rattle.arith.specs.Ranges.{some_to}
use Rattle.arith.proofs.Tests.{le_yes, le_not, test_le, eq_yes, eq_not, test_eq, both_false}
use Rattle.arith.proofs.RangeLaws.{none_no, no_none}
use Rattle.schedule.specs.PlainSchedule.{Timing}
use Rattle.reclaiming.specs.Orders.{next_arrival, plain_allowance, is_lone, with_gap, allowance}
use Rattle.reclaiming.specs.StateBlock.{State, work_of}
use Rattle.reclaiming.specs.States.{view_of}

-- an allowance is at least 01's, a lone job's is at least the gap, and it is no more than one of them
pub gap_least : (alone : Bool) (plain gap : ℕ) → plain ≤ with_gap alone plain gap
gap_least true plain gap = omega arith
gap_least false plain gap = omega arith

gap_taken : (alone : Bool) (plain gap : ℕ) → alone ≡ true → gap ≤ with_gap alone plain gap
gap_taken true plain gap e = omega arith
gap_taken false plain gap e = absurd (false≢true e)

gap_which : (alone : Bool) (plain gap t : ℕ) → t ≤ with_gap alone plain gap → (t ≤ plain) ⊎ ((alone ≡ true) × (t ≤ gap))
gap_which true plain gap t h = elim (dec_le t plain) [ yes k ↦ inl k | no k ↦ inr (refl, omega arith) ]
gap_which false plain gap t h = inl h

-- so a time meets it if it meets 01's, or if the job is alone and it meets the gap
pub gap_meets : (alone : Bool) (plain gap t : ℕ) → leb t (with_gap alone plain gap) ≡ pick (leb t plain) true (both (leb t gap) alone)
gap_meets alone plain gap t =
    elim (test_le t plain) as (λ b _. leb t (with_gap alone plain gap) ≡ pick b true (both (leb t gap) alone)) [
      | le_yes h ↦ le-leb t (with_gap alone plain gap) (omega (arith, gap_least alone plain gap))
      | le_not h ↦ by_gap h alone
    ]
  where
    by_gap : plain < t → (b : Bool) → leb t (with_gap b plain gap) ≡ both (leb t gap) b
    by_gap over true =
        elim (test_le t gap) as (λ b _. leb t (max plain gap) ≡ both b true) [
          | le_yes h ↦ le-leb t (max plain gap) (omega arith)
          | le_not h ↦ lt-leb t (max plain gap) (omega arith)
        ]
    by_gap over false = lt-leb t plain over ∙ sym (both_false (leb t gap))

module _ (τ : Timing) (s : State) (x : ℕ) where
  -- task i is another one, and its job is open
  abbrev other : ℕ → Bool
  other i = both (not (eqb i x)) (not (eqb (work_of s i) 0))

  other_closed : (i : ℕ) → other i ≡ false → i ≢ x → work_of s i ≡ 0
  other_closed i e ne =
      eqb-true (work_of s i) 0
      (not-false (eqb (work_of s i) 0) (sym (ap (λ (b : Bool). both (not b) (not (eqb (work_of s i) 0))) (ne_eqb i x ne)) ∙ e))

  closed_other : (i : ℕ) → (i ≢ x → work_of s i ≡ 0) → other i ≡ false
  closed_other i h =
      elim (test_eq i x) as (λ b _. both (not b) (not (eqb (work_of s i) 0)) ≡ false) [
        | eq_yes e ↦ refl
        | eq_not e ↦
            elim (test_eq (work_of s i) 0) as (λ b _. not b ≡ false) [ eq_yes z ↦ refl | eq_not z ↦ absurd (z (h e)) ]
      ]

  pub lone_closed : is_lone τ (view_of s) x ≡ true → (i : ℕ) → i < τ.count → i ≢ x → work_of s i ≡ 0
  lone_closed l i h = other_closed i (no_none other τ.count (not-true (some_to τ.count other) l) i h)

  pub closed_lone : ((i : ℕ) → i < τ.count → i ≢ x → work_of s i ≡ 0) → is_lone τ (view_of s) x ≡ true
  closed_lone h = ap not (none_no other τ.count (λ i k. closed_other i (h i k)))

  -- so of its allowance
  pub allowance_least : plain_allowance τ (view_of s) x ≤ allowance τ (view_of s) x
  allowance_least = gap_least (is_lone τ (view_of s) x) (plain_allowance τ (view_of s) x) (next_arrival τ s.clock)

  pub allowance_gap : is_lone τ (view_of s) x ≡ true → next_arrival τ s.clock ≤ allowance τ (view_of s) x
  allowance_gap = gap_taken (is_lone τ (view_of s) x) (plain_allowance τ (view_of s) x) (next_arrival τ s.clock)

  pub allowance_which :
      (t : ℕ) → t ≤ allowance τ (view_of s) x → (t ≤ plain_allowance τ (view_of s) x) ⊎ ((is_lone τ (view_of s) x ≡ true) × (t ≤ next_arrival τ s.clock))
  allowance_which = gap_which (is_lone τ (view_of s) x) (plain_allowance τ (view_of s) x) (next_arrival τ s.clock)
