-- The total of the remaining ticks, kept while jobs arrive.
-- Assumes nothing.
use Prim.Native.Nat.{ℕ, ◌+◌, ◌-◌, ◌*◌, ◌<◌, ◌≤◌}
use mathlib.Core.Path.{◌≡◌, sym, subst, ap, ◌∙◌}
use mathlib.Core.List.{List}
use native.Mathlib.Omega.{arith}
use lib.ListN.{length}
use Rattle.arith.proofs.Sums.{sum_to_but, sum_to_term}
use Rattle.plan.specs.declared.Task.{Task}
use Rattle.plan.specs.Times.{whole, task_time}
use Rattle.reclaiming.specs.declared.Entry.{Entry}
use Rattle.reclaiming.specs.StateBlock.{task_of, work_field, remaining_field, unspent_field, state_length, places}
use Rattle.state.specs.Code.{entry_in, entry_stored, rest_stored, queued_to}
use Rattle.state.proofs.BlockLaws.{remaining_in, length-rest_stored}
use Rattle.state.proofs.EntryStores.{stored_there, stored_else}
use Rattle.ticks.specs.Arriving.{renewed_bytes, Allots}

-- a new job of task i leaves every other entry, and gives it its allotment
module _ (b : List ℕ) (i speed : ℕ) where
  abbrev t : Task
  t = task_of (entry_in b i)

  renewed_else : (j : ℕ) → (j ≡ i → ⊥) → entry_in (renewed_bytes b i speed) j ≡ entry_in b j
  renewed_else j other =
      let half : List ℕ = entry_stored b work_field i (whole t).work in
      stored_else (rest_stored b i (whole t)) remaining_field i (task_time speed t) (omega arith) j other
      ∙ stored_else half unspent_field i (whole t).fixed (omega arith) j other
      ∙ stored_else b work_field i (whole t).work (omega arith) j other

  renewed_there :
      i < places → length b ≡ state_length → task_time speed (task_of (entry_in b i)) ≤ 65535 →
      (entry_in (renewed_bytes b i speed) i).remaining ≡ task_time speed (task_of (entry_in b i))
  renewed_there h size fits =
      stored_there (rest_stored b i (whole t)) remaining_field i (task_time speed t) (omega arith) h (length-rest_stored b i (whole t) ∙ size) (omega arith)

-- the tasks below i have had their turn: the total is the block's, and the entries from i on are as they were found
pub record Counting (count speed : ℕ) (found m : List ℕ) (total i : ℕ) : Type 0 where
  pub allots : Allots found count speed
  pub sums : total ≡ queued_to m count
  pub most : total ≤ 1048560 + 65535 * i
  pub same : (j : ℕ) → i ≤ j → entry_in m j ≡ entry_in found j

module _ {count speed : ℕ} {found m : List ℕ} {total i : ℕ} (now : Counting count speed found m total i) where
  -- task i has no new job
  pub count_old : {o : List ℕ} {r : ℕ} → o ≡ m → r ≡ total → Counting count speed found o r (i + 1)
  count_old e f = record {
    allots = now.allots;
    sums = f ∙ now.sums ∙ ap (λ (l : List ℕ). queued_to l count) (sym e);
    most = omega (arith, f, now.most);
    same = λ j h. ap (λ (l : List ℕ). entry_in l j) e ∙ now.same j (omega arith);
  }

  module _ (h : i < count) where
    -- what the entry of task i has is in the total
    pub old_within : (entry_in m i).remaining ≤ total
    old_within = omega (arith, now.sums, sum_to_term count (remaining_in m) i h)

    -- and its allotment is short
    pub allotment_short : task_time speed (task_of (entry_in m i)) ≤ 65535
    allotment_short = subst (λ (e : Entry). task_time speed (task_of e) ≤ 65535) (sym (now.same i (omega arith))) (now.allots i h)

    -- task i has a new job: its allotment takes the place of what the entry had
    pub count_new :
        i < places →
        length m ≡ state_length →
        {o : List ℕ} {r : ℕ} →
        o ≡ renewed_bytes m i speed →
        r ≡ total - (entry_in m i).remaining + task_time speed (task_of (entry_in m i)) →
        Counting count speed found o r (i + 1)
    count_new few size {o} {r} e f =
        let there : (entry_in o i).remaining ≡ task_time speed (task_of (entry_in m i)) =
        ap (λ (l : List ℕ). (entry_in l i).remaining) e ∙ renewed_there m i speed few size allotment_short in
        let else : (j : ℕ) → (j ≡ i → ⊥) → entry_in o j ≡ entry_in m j = λ j z. ap (λ (l : List ℕ). entry_in l j) e ∙ renewed_else m i speed j z in
        record {
          allots = now.allots;
          sums =
              omega (
                arith,
                f,
                now.sums,
                old_within,
                there,
                sum_to_but count (remaining_in m) (remaining_in o) i h (λ j l z. ap (λ (x : Entry). x.remaining) (else j z)),
              );
          most = omega (arith, f, now.most, allotment_short);
          same = λ j l. else j (λ z. omega (arith, z)) ∙ now.same j (omega arith);
        }
