-- The most urgent open job of a block, as its keys tell it.
-- Assumes nothing.
use Prim.Native.Nat.{ℕ, zero, suc, ◌<◌, min}
use mathlib.Core.Path.{◌≡◌, refl, sym, ap, ap₂, ◌∙◌}
use mathlib.Core.List.{List}
use native.Mathlib.Omega.{arith}
use lib.Dec.{eqb}
use lib.ListN.{length, get_or}
use Rattle.arith.specs.Choice.{pick}
use Rattle.reclaiming.specs.declared.Entry.{Entry}
use Rattle.reclaiming.specs.Orders.{open_jobs}
use Rattle.reclaiming.specs.StateBlock.{work_of, plan_in, work_field, state_count, decode}
use Rattle.reclaiming.specs.States.{view_of}
use Rattle.state.specs.Code.{timing_in, number_in}
use Rattle.urgency.specs.Code.{Keyed, least_key}
use Rattle.reclaiming.proofs.Soundness.{length-plan_in}
use Rattle.state.proofs.BlockLaws.{count_in_lem, entry_at_lem, field_work}
use Rattle.urgency.proofs.KeyLaws.{head_key, least_is}

-- how many tasks the plan in a block has
pub timing_count : (b : List ℕ) → length (plan_in (decode b)) ≡ state_count b
timing_count b = length-plan_in (decode b) ∙ count_in_lem b

-- the least key is found from what is left below n only
least_eq : (keys : List ℕ) (f g : ℕ → ℕ) (n : ℕ) → ((i : ℕ) → i < n → f i ≡ g i) → least_key keys f n ≡ least_key keys g n
least_eq keys f g zero h = refl
least_eq keys f g (suc n) h =
    ap₂ (λ (x r : ℕ). pick (eqb x 0) r (min r (get_or keys n 0))) (h n (omega arith)) (least_eq keys f g n (λ i k. h i (omega arith)))

-- the least key of the tasks with work left is at the head of the open jobs
pub open_head :
    (speeds b keys : List ℕ) (count best : ℕ) → count ≡ state_count b → Keyed (timing_in speeds b) (decode b).clock keys →
    best ≡ least_key keys (number_in b work_field) count → best ≡ head_key keys (open_jobs (timing_in speeds b) (view_of (decode b)))
open_head speeds b keys count best same keyed e =
    e
    ∙ least_eq keys (number_in b work_field) (work_of (decode b)) count
    (λ i h. field_work b i ∙ sym (ap (λ (x : Entry). x.work) (entry_at_lem b i (omega arith))))
    ∙ ap (least_key keys (work_of (decode b))) (same ∙ sym (timing_count b))
    ∙ least_is (timing_in speeds b) (decode b).clock keys keyed (work_of (decode b)) (timing_in speeds b).count (omega arith)
