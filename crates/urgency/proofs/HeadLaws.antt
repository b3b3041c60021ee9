-- What a block's entries are to the definitions, and the most urgent open job that its keys tell: whose it is, what is left of it and its allowance.
-- Assumes nothing.
use Prim.Native.Nat.{ℕ, ◌%◌, ◌<◌}
use mathlib.Core.Path.{◌≡◌, refl, sym, ap, ap₂, subst, ◌∙◌}
use mathlib.Core.List.{List, [], ◌∷◌}
use native.Mathlib.Omega.{arith}
use lib.Dec.{ltb}
use lib.ListN.{get_or}
use Rattle.arith.specs.Choice.{pick}
use Rattle.arith.proofs.Sums.{sum_to_eq}
use Rattle.plan.specs.declared.Task.{Task}
use Rattle.plan.specs.declared.Rest.{Rest}
use Rattle.plan.specs.Blocks.{no_task}
use Rattle.schedule.specs.PlainSchedule.{Timing, Pending}
use Rattle.reclaiming.specs.declared.Entry.{Entry}
use Rattle.reclaiming.specs.Orders.{plain_allowance, open_jobs}
use Rattle.reclaiming.specs.StateBlock.{State, work_of, floor_of, remaining_of, rest_in, rest_of, task_of, plan_in, work_field, state_count, decode, places}
use Rattle.reclaiming.specs.States.{view_of}
use Rattle.state.specs.Code.{Holds, entry_in, timing_in, number_in}
use Rattle.urgency.specs.Code.{Keyed, no_key, least_key, allowed_by}
use Rattle.reclaiming.proofs.Soundness.{plan_in_at}
use Rattle.reclaiming.proofs.OrderFacts.{head_below}
use Rattle.state.proofs.BlockLaws.{entry_at_lem}
use Rattle.urgency.proofs.OpenJobs.{timing_count, open_head}
use Rattle.urgency.proofs.KeyLaws.{head_key, key_below, key_task, allowance_is}

-- entry i of a block: its task in the plan, its work and its plain ticks left
module _ (b : List ℕ) (i : ℕ) (h : i < state_count b) where
  pub task_is : get_or (plan_in (decode b)) i no_task ≡ task_of (entry_in b i)
  task_is = plan_in_at (decode b) i ∙ ap task_of (entry_at_lem b i h)

  pub period_is : (get_or (plan_in (decode b)) i no_task).period ≡ (entry_in b i).period
  period_is = ap (λ (t : Task). t.period) task_is

  pub rest_is : rest_of (decode b) i ≡ rest_in (entry_in b i)
  rest_is = ap rest_in (entry_at_lem b i h)

  pub floor_is : floor_of (decode b) i ≡ (entry_in b i).floor
  floor_is = ap (λ (e : Entry). e.floor) (entry_at_lem b i h)

  remaining_is : remaining_of (decode b) i ≡ (entry_in b i).remaining
  remaining_is = ap (λ (e : Entry). e.remaining) (entry_at_lem b i h)

-- the least key of the jobs with work left was looked for
pub record Looked (speeds b l : List ℕ) (count best : ℕ) : Type 0 where
  pub holds : Holds b
  pub keyed : Keyed (timing_in speeds b) (decode b).clock l
  pub same : count ≡ state_count b
  pub found : best ≡ least_key l (number_in b work_field) count

-- the most urgent open job is task i's
pub record Head (speeds b l : List ℕ) (best i : ℕ) : Type 0 where
  pub job : Pending
  pub rest : List Pending
  pub queue : open_jobs (timing_in speeds b) (view_of (decode b)) ≡ job ∷ rest
  pub task : job.job.task ≡ i
  pub below : i < state_count b
  pub key : best ≡ get_or l i 0

module _ {speeds b l : List ℕ} {count best : ℕ} (k : Looked speeds b l count best) where
  abbrev τ : Timing
  τ = timing_in speeds b

  abbrev s : State
  s = decode b

  best_is : best ≡ head_key l (open_jobs τ (view_of s))
  best_is = open_head speeds b l count best k.same k.keyed k.found

  -- without a key no job is open
  pub none_open : best ≡ no_key → open_jobs τ (view_of s) ≡ []
  none_open none = go (open_jobs τ (view_of s)) refl best_is
    where
      go : (q : List Pending) → open_jobs τ (view_of s) ≡ q → best ≡ head_key l q → q ≡ []
      go [] o e = refl
      go (f ∷ q) o e =
          absurd (omega (arith, key_below τ s.clock l k.keyed f.job.task (head_below τ s.clock (work_of s) τ.count f q o)))

  -- else it tells the task
  pub head : (best ≡ no_key → ⊥) → {i : ℕ} → i ≡ best % 16 → Head speeds b l best i
  head some {i} task = go (open_jobs τ (view_of s)) refl best_is
    where
      go : (q : List Pending) → open_jobs τ (view_of s) ≡ q → best ≡ head_key l q → Head speeds b l best i
      go [] o e = absurd (some e)
      go (f ∷ q) o e =
          let h : f.job.task < τ.count = head_below τ s.clock (work_of s) τ.count f q o in
          let t : f.job.task ≡ i = sym (task ∙ ap (λ (n : ℕ). n % 16) e ∙ key_task τ s.clock l k.keyed f.job.task h) in
          record {
            job = f;
            rest = q;
            queue = o;
            task = t;
            below = subst (λ (n : ℕ). n < state_count b) t (omega (arith, timing_count b));
            key = e ∙ ap (λ (n : ℕ). get_or l n 0) t;
          }

-- a key was found, and tells task i
pub record Told (speeds b l : List ℕ) (count best i : ℕ) : Type 0 where
  pub looked : Looked speeds b l count best
  pub some : best ≡ no_key → ⊥
  pub task : i ≡ best % 16

module _ {speeds b l : List ℕ} {count best i : ℕ} (k : Told speeds b l count best i) where
  pub first_open : Head speeds b l best i
  first_open = head k.looked k.some k.task

  pub told_task : i < places
  told_task = omega (arith, first_open.below, k.looked.holds.few)

  pub told_below : i < (timing_in speeds b).count
  told_below = omega (arith, first_open.below, timing_count b)

  -- what is left of its job
  pub told_rest : {rest : Rest} → rest ≡ rest_in (entry_in b i) → rest ≡ rest_of (decode b) i
  told_rest e = e ∙ sym (rest_is b i first_open.below)

  -- its floor
  pub told_floor : {floor : ℕ} → floor ≡ (entry_in b i).floor → floor ≡ floor_of (decode b) i
  told_floor e = e ∙ sym (floor_is b i first_open.below)

  -- and 01's allowance of it
  pub told_allowed : allowed_by l (λ j. (entry_in b j).remaining) count best ≡ plain_allowance (timing_in speeds b) (view_of (decode b)) i
  told_allowed =
      let counted : count ≡ (timing_in speeds b).count = k.looked.same ∙ sym (timing_count b) in
      sum_to_eq count (λ j. pick (ltb best (get_or l j 0)) 0 (entry_in b j).remaining) (λ j. pick (ltb best (get_or l j 0)) 0 (remaining_of (decode b) j))
      (λ j h. ap (λ (x : ℕ). pick {A = ℕ} (ltb best (get_or l j 0)) 0 x) (sym (remaining_is b j (omega (arith, k.looked.same)))))
      ∙ ap₂ (allowed_by l (remaining_of (decode b))) counted first_open.key
      ∙ allowance_is (timing_in speeds b) (decode b) l k.looked.keyed i told_below
