-- What the walk over the entries finds of a lone job, and that its allowance is that of the definitions.
-- Assumes nothing.
use Prim.Native.Nat.{ℕ, ◌+◌, ◌-◌, ◌%◌, ◌<◌, ◌≤◌}
use mathlib.Core.Path.{◌≡◌, sym, ap, ap₂, ◌∙◌}
use mathlib.Core.Bool.{Bool, true, false, not}
use mathlib.Core.List.{List}
use native.Mathlib.Numerals.{add-one}
use native.Mathlib.Omega.{arith}
use borrow.Author.Tests.{eq-eqb, ne_eqb}
use lib.Dec.{leb, eqb}
use Rattle.arith.specs.Choice.{pick, both}
use Rattle.arith.proofs.Tests.{passed, failed, tested, both_true, both_false}
use Rattle.arith.proofs.RangeLaws.{some_yes, some_same, least_le}
use Rattle.plan.specs.declared.Rest.{Rest}
use Rattle.schedule.specs.PlainSchedule.{Timing}
use Rattle.reclaiming.specs.declared.Entry.{Entry}
use Rattle.reclaiming.specs.Orders.{next_arrival, plain_allowance, is_lone, with_gap, allowance}
use Rattle.reclaiming.specs.StateBlock.{State, work_of, work_field, rest_in, rest_of, state_count, decode}
use Rattle.reclaiming.specs.States.{view_of}
use Rattle.state.specs.Code.{entry_in, number_in, timing_in}
use Rattle.state.proofs.BlockLaws.{entry_at_lem, field_work}
use Rattle.reclaiming.proofs.Lone.{gap_meets}
use Rattle.urgency.specs.Code.{Keyed, allowed_by}
use Rattle.urgency.proofs.OpenJobs.{timing_count}
use Rattle.urgency.proofs.HeadLaws.{Told, told_below, told_rest, told_allowed}
use Rattle.orders.specs.Lone.{other_in, allowed_until}

-- no task below j but x has work left in a block
pub record NoneTo (b : List ℕ) (count x j : ℕ) : Type 0 where
  pub below : j ≤ count
  pub none : other_in b j x ≡ false

module _ {b : List ℕ} {count x j : ℕ} (now : NoneTo b count x j) where
  -- task i is another one, and has work left
  abbrev other : ℕ → Bool
  other i = both (not (eqb i x)) (not (eqb (number_in b work_field i) 0))

  none_more : j < count → other j ≡ false → NoneTo b count x (j + 1)
  none_more h e = record {
    below = omega arith;
    none = rw add-one (ap₂ (λ (p q : Bool). pick p true q) e now.none);
  }

  pub none_closed : j < count → number_in b work_field j ≡ 0 → NoneTo b count x (j + 1)
  none_closed h z = none_more h (ap (λ (t : Bool). both (not (eqb j x)) (not t)) (eq-eqb (number_in b work_field j) 0 z) ∙ both_false (not (eqb j x)))

  pub none_own : j < count → j ≡ x → NoneTo b count x (j + 1)
  none_own h e = none_more h (ap (λ (t : Bool). both (not t) (not (eqb (number_in b work_field j) 0))) (eq-eqb j x e))

  pub none_all : count ≤ j → true ≡ not (other_in b count x)
  none_all h =
      let same : j ≡ count = omega (arith, now.below) in
      sym (ap (λ (k : ℕ). not (other_in b k x)) (sym same) ∙ ap not now.none)

  pub not_lone : j < count → (number_in b work_field j ≡ 0 → ⊥) → (j ≡ x → ⊥) → false ≡ not (other_in b count x)
  not_lone h some ne =
      sym (ap not (some_yes other count j h (both_true (ap not (ne_eqb j x ne)) (ap not (ne_eqb (number_in b work_field j) 0 some)))))

-- the allowance of the most urgent open job, of which 01's was summed
pub record Summed (b l : List ℕ) (count key allowed : ℕ) : Type 0 where
  pub total : allowed ≡ allowed_by l (λ j. (entry_in b j).remaining) count key
  pub small : allowed ≤ 1048560

module _ {b l : List ℕ} {count key allowed : ℕ} (k : Summed b l count key allowed) (next : ℕ) where
  abbrev Allows : ℕ → Type 0
  Allows r = (r ≡ allowed_until b l count key next) × (r ≤ 1048560)

  -- by whether another task has work left
  abbrev by : Bool → ℕ
  by other = with_gap (not other) (allowed_by l (λ j. (entry_in b j).remaining) count key) next

  pub enough_plain : next ≤ allowed → Allows allowed
  enough_plain h = (
    elim (tested (other_in b count (key % 16))) as (λ t _. allowed ≡ by t) [ passed ↦ k.total | failed ↦ omega (arith, k.total) ],
    k.small,
  )

  module _ {i : ℕ} (task : i ≡ key % 16) {found : Bool} (looked : found ≡ not (other_in b count i)) where
    found_is : not (other_in b count (key % 16)) ≡ found
    found_is = ap (λ (x : ℕ). not (other_in b count x)) (sym task) ∙ sym looked

    pub gap_larger : found ≡ true → allowed < next → next ≤ 1048560 → Allows next
    gap_larger e h small = (rw (found_is ∙ e) (omega (arith, k.total)), small)

    pub not_alone : found ≡ false → Allows allowed
    not_alone e = (rw (found_is ∙ e) k.total, k.small)

  -- a time meets it if it meets 01's, or if the job is alone and it meets the gap
  module _ (t : ℕ) {enough : Bool} (e : enough ≡ leb t allowed) where
    abbrev meets : Bool
    meets = leb t (allowed_until b l count key next)

    meets_is : meets ≡ pick enough true (both (leb t next) (not (other_in b count (key % 16))))
    meets_is =
        gap_meets (not (other_in b count (key % 16))) (allowed_by l (λ j. (entry_in b j).remaining) count key) next t
        ∙ ap (λ (x : Bool). pick x true (both (leb t next) (not (other_in b count (key % 16))))) (ap (leb t) (sym k.total) ∙ sym e)

    pub meets_plain : enough ≡ true → true ≡ meets
    meets_plain y = sym (meets_is ∙ ap (λ (x : Bool). pick x true (both (leb t next) (not (other_in b count (key % 16))))) y)

    module _ (over : enough ≡ false) {fits : Bool} (f : fits ≡ leb t next) where
      gap_left : meets ≡ both fits (not (other_in b count (key % 16)))
      gap_left = meets_is ∙ ap₂ (λ (x y : Bool). pick x true (both y (not (other_in b count (key % 16))))) over (sym f)

      pub gap_short : fits ≡ false → false ≡ meets
      gap_short n = sym (gap_left ∙ ap (λ (x : Bool). both x (not (other_in b count (key % 16)))) n)

      pub gap_decides : fits ≡ true → {i : ℕ} → i ≡ key % 16 → {found : Bool} → found ≡ not (other_in b count i) → found ≡ meets
      gap_decides y task looked =
          looked
          ∙ ap (λ (x : ℕ). not (other_in b count x)) task
          ∙ sym (gap_left ∙ ap (λ (x : Bool). both x (not (other_in b count (key % 16)))) y)

-- whether a job of a block is the only open one
pub lone_is : (speeds b : List ℕ) (count x : ℕ) → count ≡ state_count b → not (other_in b count x) ≡ is_lone (timing_in speeds b) (view_of (decode b)) x
lone_is speeds b count x same =
    ap not
    (ap (λ (n : ℕ). other_in b n x) (same ∙ sym (timing_count b))
    ∙ some_same (timing_in speeds b).count (λ i. both (not (eqb i x)) (not (eqb (number_in b work_field i) 0)))
    (λ i. both (not (eqb i x)) (not (eqb (work_of (decode b) i) 0)))
    (λ i h. ap (λ (w : ℕ). both (not (eqb i x)) (not (eqb w 0)))
    (field_work b i ∙ sym (ap (λ (e : Entry). e.work) (entry_at_lem b i (omega (arith, timing_count b)))))))

-- what is left of the most urgent open job, the next arrival and its allowance were read
pub record Read (speeds b l : List ℕ) (count best i : ℕ) (rest : Rest) (next allowed : ℕ) : Type 0 where
  pub told : Told speeds b l count best i
  pub rest_in : rest ≡ rest_in (entry_in b i)
  pub arrival : next ≡ next_arrival (timing_in speeds b) (decode b).clock
  pub allowed_in : allowed ≡ allowed_until b l count best next

module _ {speeds b l : List ℕ} {count best i : ℕ} {rest : Rest} {next allowed : ℕ} (k : Read speeds b l count best i rest next allowed) where
  pub read_below : i < (timing_in speeds b).count
  read_below = told_below k.told

  pub read_rest : rest ≡ rest_of (decode b) i
  read_rest = told_rest k.told k.rest_in

  pub read_allowed : allowed ≡ allowance (timing_in speeds b) (view_of (decode b)) i
  read_allowed =
      let τ : Timing = timing_in speeds b in
      let s : State = decode b in
      k.allowed_in
      ∙ ap₂ (λ (t : Bool) (x : ℕ). with_gap t x next)
      (ap (λ (x : ℕ). not (other_in b count x)) (sym k.told.task) ∙ lone_is speeds b count i k.told.looked.same)
      (told_allowed k.told)
      ∙ ap (with_gap (is_lone τ (view_of s) i) (plain_allowance τ (view_of s) i)) k.arrival

-- the ticks to the next arrival are at most a period
pub next_short :
    (speeds b : List ℕ) {l : List ℕ} →
    Keyed (timing_in speeds b) (decode b).clock l →
    1 ≤ state_count b →
    {next : ℕ} →
    next ≡ next_arrival (timing_in speeds b) (decode b).clock →
    next ≤ 65535
next_short speeds b {l} keyed some {next} e =
    let τ : Timing = timing_in speeds b in
    let first : 0 < τ.count = omega (arith, timing_count b) in
    omega (arith, least_le τ.count (λ j. τ.period j - (decode b).clock % τ.period j) 0 first, keyed.high 0 first)
