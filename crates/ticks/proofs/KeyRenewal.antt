-- The keys of the tasks where those whose deadline is the clock have new jobs.
-- Assumes nothing.
use Prim.Native.Nat.{ℕ, ◌+◌, ◌<◌, ◌≤◌}
use mathlib.Core.Path.{◌≡◌, sym, ap, ◌∙◌}
use mathlib.Core.Bool.{Bool}
use mathlib.Core.List.{List}
use native.Mathlib.Omega.{arith}
use borrow.Author.Tests.{eq-eqb, ne_eqb}
use lib.ListN.{get_or, set}
use lib.Seq.{set-set}
use Rattle.arith.specs.Choice.{pick}
use Rattle.arith.proofs.ArrayLaws.{values_more}
use Rattle.reclaiming.specs.StateBlock.{places}
use Rattle.state.specs.Code.{entry_in}
use Rattle.urgency.specs.Code.{key_of, deadline_in, due_at}
use Rattle.ticks.specs.Code.{renewed_keys}

-- the keys of the tasks below n are made
pub record Renewing (b keys : List ℕ) (count clock : ℕ) (r : List ℕ) (n : ℕ) : Type 0 where
  pub few : count ≤ places
  pub below : n ≤ count
  pub so_far : r ≡ renewed_keys b keys n clock

module _ {b keys : List ℕ} {count clock : ℕ} {r : List ℕ} {n : ℕ} (now : Renewing b keys count clock r n) where
  -- the key of a task that has a new job, and that of any task after its turn
  abbrev new_key : ℕ → ℕ
  new_key i = key_of (clock + (entry_in b i).period) (entry_in b i).period i

  abbrev key_after : ℕ → ℕ
  key_after i = pick (due_at keys clock i) (new_key i) (get_or keys i 0)

  pub renewed_all : count ≤ n → r ≡ renewed_keys b keys count clock
  renewed_all h =
      let e : n ≡ count = omega arith in
      now.so_far ∙ ap (λ (k : ℕ). renewed_keys b keys k clock) e

  module _ (h : n < count) where
    renewed_more : {o : List ℕ} (key : ℕ) → o ≡ set r n key → key ≡ key_after n → Renewing b keys count clock o (n + 1)
    renewed_more key g e = record {
      few = now.few;
      below = omega arith;
      so_far = g ∙ values_more places 0 key_after r n key (omega arith) now.so_far e;
    }

    -- task n's job stays
    pub renewed_old :
        (deadline_in (get_or keys n 0) ≡ clock → ⊥) → {o : List ℕ} → o ≡ set r n (get_or keys n 0) → Renewing b keys count clock o (n + 1)
    renewed_old q g =
        renewed_more (get_or keys n 0) g
        (ap (λ (t : Bool). pick t (new_key n) (get_or keys n 0)) (sym (ne_eqb (deadline_in (get_or keys n 0)) clock q)))

    -- task n has a new job
    pub renewed_new :
        deadline_in (get_or keys n 0) ≡ clock →
        {period key : ℕ} →
        period ≡ (entry_in b n).period →
        key ≡ key_of (clock + period) period n →
        (x : ℕ) →
        {o : List ℕ} →
        o ≡ set (set r n x) n key →
        Renewing b keys count clock o (n + 1)
    renewed_new q {key = key} p e x g =
        renewed_more key (g ∙ set-set r n x key)
        (e
        ∙ ap (λ (y : ℕ). key_of (clock + y) y n) p
        ∙ ap (λ (t : Bool). pick t (new_key n) (get_or keys n 0)) (sym (eq-eqb (deadline_in (get_or keys n 0)) clock q)))
