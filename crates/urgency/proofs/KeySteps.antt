-- What the functions that judge urgency by keys find, step by step.
-- Assumes nothing.
use Prim.Native.Nat.{ℕ, ◌+◌, ◌*◌, ◌/◌, ◌<◌, ◌≤◌, min}
use mathlib.Core.Path.{◌≡◌, sym, ap, subst, ◌∙◌}
use mathlib.Core.Bool.{Bool}
use mathlib.Core.List.{List}
use native.Mathlib.Numerals.{add-one}
use native.Mathlib.Decide.{ℕ_discrete}
use native.Mathlib.Omega.{arith}
use borrow.Author.Tests.{lt-ltb, le-ltb, eq-eqb, ne_eqb}
use lib.Dec.{ltb}
use lib.ListN.{length, get_or, set, length-set}
use Rattle.arith.specs.Choice.{pick}
use Rattle.arith.proofs.ArrayLaws.{values_more}
use Rattle.arith.specs.Ranges.{least_to}
use Rattle.reclaiming.specs.StateBlock.{places}
use Rattle.state.specs.Code.{entry_in}
use Rattle.urgency.specs.Code.{key_of, no_key, deadline_in, latest_key, keys_in, least_key, allowed_by}
use Rattle.arith.proofs.RangeLaws.{Attained, least_at}

-- the keys of the first i tasks are filled in
pub record KeysTo (block : List ℕ) (count clock : ℕ) (keys : List ℕ) (i : ℕ) : Type 0 where
  pub few : count ≤ places
  pub below : i ≤ count
  pub size : length keys ≡ places
  pub filled : keys ≡ keys_in block i clock

module _ {block : List ℕ} {count clock : ℕ} {keys : List ℕ} {i : ℕ} (so_far : KeysTo block count clock keys i) where
  pub keys_more :
      {p x : ℕ} → i < count → p ≡ (entry_in block i).period → x ≡ key_of (clock / p * p + p) p i → KeysTo block count clock (set keys i x) (i + 1)
  keys_more {p} {x} h e f = record {
    few = so_far.few;
    below = omega arith;
    size = length-set keys i x ∙ so_far.size;
    filled =
        values_more places 0 (λ k. latest_key clock (entry_in block k).period k) keys i x (omega (arith, so_far.few)) so_far.filled
        (f ∙ ap (λ (y : ℕ). latest_key clock y i) e);
  }

  pub keys_all : count ≤ i → keys ≡ keys_in block count clock
  keys_all h =
      let e : i ≡ count = omega (arith, so_far.below) in
      so_far.filled ∙ ap (λ (n : ℕ). keys_in block n clock) e

-- the least key of the first i tasks that have something left
pub record LeastKeyTo (keys : List ℕ) (left : ℕ → ℕ) (count best i : ℕ) : Type 0 where
  pub below : i ≤ count
  pub is : best ≡ least_key keys left i
  pub small : best ≤ no_key

module _ {keys : List ℕ} {left : ℕ → ℕ} {count best i : ℕ} (so_far : LeastKeyTo keys left count best i) where
  -- of task i its own key counts where it has something left
  pub key_more :
      {key next : ℕ} → i < count → (left i ≡ 0 → key ≡ no_key) → ((left i ≡ 0 → ⊥) → key ≡ get_or keys i 0) → next ≡ min best key →
      LeastKeyTo keys left count next (i + 1)
  key_more {key} {next} h none some e = record {
    below = omega arith;
    is = rw add-one (elim (ℕ_discrete (left i) 0) [
      | yes z ↦
          let m : next ≡ best = omega (arith, none z, so_far.small) in
          m ∙ so_far.is ∙ ap (λ (b : Bool). pick b (least_key keys left i) (min (least_key keys left i) (get_or keys i 0))) (sym (eq-eqb (left i) 0 z))
      | no z ↦
          let m : next ≡ min best (get_or keys i 0) = omega (arith, some z) in
          m
          ∙ ap (λ (x : ℕ). min x (get_or keys i 0)) so_far.is
          ∙ ap (λ (b : Bool). pick b (least_key keys left i) (min (least_key keys left i) (get_or keys i 0))) (sym (ne_eqb (left i) 0 z))
    ]);
    small = omega (arith, so_far.small);
  }

  pub key_all : count ≤ i → best ≡ least_key keys left count
  key_all h =
      let e : i ≡ count = omega (arith, so_far.below) in
      so_far.is ∙ ap (least_key keys left) e

-- the allowance of a key from the first j tasks, of at most 65535 ticks each
pub record AllowedTo (keys : List ℕ) (left : ℕ → ℕ) (count key sum j : ℕ) : Type 0 where
  pub below : j ≤ count
  pub total : sum ≡ allowed_by keys left j key
  pub small : sum ≤ 65535 * j

module _ {keys : List ℕ} {left : ℕ → ℕ} {count key sum j : ℕ} (so_far : AllowedTo keys left count key sum j) where
  -- task j's job is at least as urgent, or less so
  pub allowed_more : {x next : ℕ} → j < count → get_or keys j 0 ≤ key → x ≡ left j → x ≤ 65535 → next ≡ sum + x → AllowedTo keys left count key next (j + 1)
  allowed_more h le e most s =
      let t : left j ≡ pick (ltb key (get_or keys j 0)) 0 (left j) =
      ap (λ (b : Bool). pick {A = ℕ} b 0 (left j)) (sym (le-ltb key (get_or keys j 0) le)) in
      record { below = omega arith; total = rw add-one (omega (arith, so_far.total)); small = omega (arith, so_far.small) }

  pub allowed_same : {next : ℕ} → j < count → key < get_or keys j 0 → next ≡ sum → AllowedTo keys left count key next (j + 1)
  allowed_same h lt s =
      let t : 0 ≡ pick (ltb key (get_or keys j 0)) 0 (left j) =
      ap (λ (b : Bool). pick {A = ℕ} b 0 (left j)) (sym (lt-ltb key (get_or keys j 0) lt)) in
      record { below = omega arith; total = rw add-one (omega (arith, so_far.total)); small = omega (arith, so_far.small) }

  pub allowed_all : count ≤ places → count ≤ j → (sum ≡ allowed_by keys left count key) × (sum ≤ 1048560)
  allowed_all few h =
      let e : j ≡ count = omega (arith, so_far.below) in
      (so_far.total ∙ ap (λ (n : ℕ). allowed_by keys left n key) e, omega (arith, so_far.small))

-- the least of the first i keys, each of a deadline that is not past
pub record EarliestTo (keys : List ℕ) (count clock least i : ℕ) : Type 0 where
  pub some : 1 ≤ count
  pub ahead : (k : ℕ) → k < count → (clock ≤ deadline_in (get_or keys k 0)) × (get_or keys k 0 < no_key)
  pub below : i ≤ count
  pub is : least ≡ least_to i (λ k. get_or keys k 0)

module _ {keys : List ℕ} {count clock least i : ℕ} (so_far : EarliestTo keys count clock least i) where
  pub earliest_more : {next : ℕ} → i < count → next ≡ min least (get_or keys i 0) → EarliestTo keys count clock next (i + 1)
  earliest_more h e = record {
    some = so_far.some;
    ahead = so_far.ahead;
    below = omega arith;
    is = rw add-one (omega (arith, so_far.is));
  }

  module _ (h : count ≤ i) where
    pub earliest_all : least ≡ least_to count (λ k. get_or keys k 0)
    earliest_all =
        let e : i ≡ count = omega (arith, so_far.below) in
        so_far.is ∙ ap (λ (n : ℕ). least_to n (λ k. get_or keys k 0)) e

    -- it is a key too
    pub earliest_ahead : (clock ≤ deadline_in least) × (least < no_key)
    earliest_ahead =
        let a : Attained count (λ k. get_or keys k 0) = least_at count (λ k. get_or keys k 0) so_far.some in
        subst (λ (x : ℕ). (clock ≤ deadline_in x) × (x < no_key)) (sym (earliest_all ∙ a.is)) (so_far.ahead a.number a.below)

-- the same by its place among the keys
pub record Earliest (keys : List ℕ) (count clock first i : ℕ) : Type 0 where
  pub place : first < count
  pub least : EarliestTo keys count clock (get_or keys first 0) i

module _ {keys : List ℕ} {count clock first i : ℕ} (so_far : Earliest keys count clock first i) (h : i < count) where
  pub earliest_later : {next : ℕ} → get_or keys i 0 < get_or keys first 0 → next ≡ i → Earliest keys count clock next (i + 1)
  earliest_later {next} l e =
      let same : get_or keys next 0 ≡ get_or keys i 0 = ap (λ (k : ℕ). get_or keys k 0) e in
      record { place = omega arith; least = earliest_more so_far.least h (omega arith) }

  pub earliest_kept : {next : ℕ} → get_or keys first 0 ≤ get_or keys i 0 → next ≡ first → Earliest keys count clock next (i + 1)
  earliest_kept {next} l e =
      let same : get_or keys next 0 ≡ get_or keys first 0 = ap (λ (k : ℕ). get_or keys k 0) e in
      record { place = omega (arith, so_far.place); least = earliest_more so_far.least h (omega arith) }
