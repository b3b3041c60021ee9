-- The order of a sound state, as facts about each task: what `order_sound` tests of the head of the open jobs, both ways.
-- Assumes nothing.
use Prim.Native.Nat.{ℕ, ◌≤◌, ◌<◌, max}
use mathlib.Core.Path.{◌≡◌, refl, sym, ap, subst, ◌∙◌}
use mathlib.Core.Bool.{Bool, true}
use mathlib.Core.List.{List, [], ◌∷◌}
use mathlib.Core.Logic.{◌≢◌, inl, inr}
use native.Mathlib.Decide.{dec_le, ℕ_discrete}
use native.Mathlib.Omega.{arith}
use borrow.Author.Tests.{leb-true, le-leb, eqb-true, eq-eqb}
use lib.Dec.{leb, eqb}
use Rattle.arith.specs.Choice.{both}
use Rattle.arith.proofs.Tests.{both_left, both_right, both_true}
use Rattle.arith.proofs.QuestionLaws.{within_low, within_high, within_true}
use Rattle.schedule.specs.PlainSchedule.{Timing, Job, Pending, latest, queue_of}
use Rattle.schedule.specs.Feasibility.{In}
use Rattle.schedule.proofs.Urgency.{MoreUrgent, asymmetric}
use Rattle.schedule.proofs.Queue.{Sorted, leads_in}
use Rattle.schedule.proofs.QueueLaws.{latest_pending, Stands, queue_of_in, in_queue_of, queue_of_sorted}
use Rattle.reclaiming.specs.Orders.{allowance, open_jobs, running_time}
use Rattle.reclaiming.specs.StateBlock.{State, floor_of, work_of}
use Rattle.reclaiming.specs.States.{view_of}
use Rattle.reclaiming.specs.Questions.{level_sound, order_sound}

-- the order runs the most urgent open job, at a level from its floor on that meets its allowance
pub record Runs (speeds : List ℕ) (τ : Timing) (highest : ℕ) (s : State) : Type 0 where
  pub below : s.task < τ.count
  pub work : 0 < work_of s s.task
  pub floor : floor_of s s.task ≤ s.level
  pub level : s.level ≤ max highest (floor_of s s.task)
  pub meets : running_time speeds (view_of s) ≤ allowance τ (view_of s) s.task
  pub urgent :
      (i : ℕ) → i < τ.count → 0 < work_of s i → i ≢ s.task → MoreUrgent τ (latest τ s.clock s.task) (latest τ s.clock i)

-- the order is to stay idle, and no job is open; or it runs one
pub data Ordered (speeds : List ℕ) (τ : Timing) (highest : ℕ) (s : State) : Type 0 where
  idles : s.task ≡ 255 → s.level ≡ 0 → ((i : ℕ) → i < τ.count → work_of s i ≡ 0) → Ordered speeds τ highest s
  runs : Runs speeds τ highest s → Ordered speeds τ highest s

-- where the queue of what is left is known: each task with something left is in it, and each member is such a task's
module _ (τ : Timing) (t : ℕ) (left : ℕ → ℕ) (n : ℕ) where
  pub entry_in_lem : (q : List Pending) → queue_of τ t left n ≡ q → (i : ℕ) → i < n → 0 < left i → In (latest_pending τ t left i) q
  entry_in_lem q e i h k =
      subst (In (latest_pending τ t left i)) e
      (in_queue_of τ t left n (latest_pending τ t left i) (record { number = i; below = h; some = k; is = refl }))

  pub none_left : queue_of τ t left n ≡ [] → (i : ℕ) → i < n → left i ≡ 0
  none_left e i h = elim (dec_le 1 (left i)) [ yes k ↦ absurd (entry_in_lem [] e i h k) | no k ↦ omega arith ]

  pub head_stands : (f : Pending) (q : List Pending) → queue_of τ t left n ≡ f ∷ q → Stands τ t left n f
  head_stands f q e = queue_of_in τ t left n f (subst (In f) (sym e) (inl refl))

  -- the head is more urgent than the job of any other task with something left
  pub head_leads :
      (f : Pending) (q : List Pending) →
      queue_of τ t left n ≡ f ∷ q →
      (i : ℕ) →
      i < n →
      0 < left i →
      i ≢ f.job.task →
      MoreUrgent τ f.job (latest τ t i)
  head_leads f q e i h k x =
      let s : Sorted τ (f ∷ q) = subst (Sorted τ) e (queue_of_sorted τ t left n) in
      elim (entry_in_lem (f ∷ q) e i h k) [
        | inl y ↦ absurd (x (ap (λ (p : Pending). p.job.task) y))
        | inr m ↦ leads_in τ f q s.0 (latest_pending τ t left i) m
      ]

  -- it is the latest job of its task
  pub head_job : (f : Pending) (q : List Pending) → queue_of τ t left n ≡ f ∷ q → f.job ≡ latest τ t f.job.task
  head_job f q e =
      let w : Stands τ t left n f = head_stands f q e in
      ap (λ (p : Pending). p.job) w.is ∙ ap (λ (p : Pending). latest τ t p.job.task) (sym w.is)

  pub head_below : (f : Pending) (q : List Pending) → queue_of τ t left n ≡ f ∷ q → f.job.task < n
  head_below f q e =
      let w : Stands τ t left n f = head_stands f q e in
      subst (λ (p : Pending). p.job.task < n) (sym w.is) w.below

  pub head_left : (f : Pending) (q : List Pending) → queue_of τ t left n ≡ f ∷ q → 0 < left f.job.task
  head_left f q e =
      let w : Stands τ t left n f = head_stands f q e in
      subst (λ (p : Pending). 0 < left p.job.task) (sym w.is) w.some

module _ (speeds : List ℕ) (τ : Timing) (highest : ℕ) (s : State) where
  pub order_facts : order_sound speeds τ highest (view_of s) (open_jobs τ (view_of s)) ≡ true → Ordered speeds τ highest s
  order_facts = go (open_jobs τ (view_of s)) refl
    where
      go : (q : List Pending) → open_jobs τ (view_of s) ≡ q → order_sound speeds τ highest (view_of s) q ≡ true → Ordered speeds τ highest s
      go [] e h =
          idles (eqb-true s.task 255 (both_left (eqb s.task 255) (eqb s.level 0) h))
          (eqb-true s.level 0 (both_right (eqb s.task 255) (eqb s.level 0) h)) (none_left τ s.clock (work_of s) τ.count e)
      go (f ∷ q) e h =
          let floor : ℕ = floor_of s s.task in
          let a : Bool = level_sound highest floor s.level in
          let b : Bool = leb (running_time speeds (view_of s)) (allowance τ (view_of s) s.task) in
          let x : f.job.task ≡ s.task = sym (eqb-true s.task f.job.task (both_left (eqb s.task f.job.task) (both a b) h)) in
          let r : both a b ≡ true = both_right (eqb s.task f.job.task) (both a b) h in
          let j : f.job ≡ latest τ s.clock s.task =
          head_job τ s.clock (work_of s) τ.count f q e ∙ ap (latest τ s.clock) x in
          runs
          (record {
            below = subst (λ (k : ℕ). k < τ.count) x (head_below τ s.clock (work_of s) τ.count f q e);
            work = subst (λ (k : ℕ). 0 < work_of s k) x (head_left τ s.clock (work_of s) τ.count f q e);
            floor = within_low floor (max highest floor) s.level (both_left a b r);
            level = within_high floor (max highest floor) s.level (both_left a b r);
            meets = leb-true (running_time speeds (view_of s)) (allowance τ (view_of s) s.task) (both_right a b r);
            urgent = λ i k w ne.
                subst (λ (y : Job). MoreUrgent τ y (latest τ s.clock i)) j
                (head_leads τ s.clock (work_of s) τ.count f q e i k w (λ y. ne (y ∙ x)));
          })

  pub facts_order : Ordered speeds τ highest s → order_sound speeds τ highest (view_of s) (open_jobs τ (view_of s)) ≡ true
  facts_order = go (open_jobs τ (view_of s)) refl
    where
      go : (q : List Pending) → open_jobs τ (view_of s) ≡ q → Ordered speeds τ highest s → order_sound speeds τ highest (view_of s) q ≡ true
      go [] e (idles t l z) = both_true (eq-eqb s.task 255 t) (eq-eqb s.level 0 l)
      go [] e (runs r) = absurd (entry_in_lem τ s.clock (work_of s) τ.count [] e s.task r.below r.work)
      go (f ∷ q) e (idles t l z) =
          absurd
          (omega (arith, head_left τ s.clock (work_of s) τ.count f q e, z f.job.task (head_below τ s.clock (work_of s) τ.count f q e)))
      go (f ∷ q) e (runs r) =
          both_true (eq-eqb s.task f.job.task (head (ℕ_discrete s.task f.job.task)))
          (both_true (within_true (floor_of s s.task) (max highest (floor_of s s.task)) s.level r.floor r.level)
          (le-leb (running_time speeds (view_of s)) (allowance τ (view_of s) s.task) r.meets))
        where
          -- if the head were another job, each would be more urgent than the other
          head : Dec (s.task ≡ f.job.task) → s.task ≡ f.job.task
          head (yes x) = x
          head (no x) =
              absurd
              (asymmetric
              (r.urgent f.job.task (head_below τ s.clock (work_of s) τ.count f q e)
              (head_left τ s.clock (work_of s) τ.count f q e) (λ y. x (sym y)))
              (subst (λ (y : Job). MoreUrgent τ y (latest τ s.clock s.task)) (head_job τ s.clock (work_of s) τ.count f q e)
              (head_leads τ s.clock (work_of s) τ.count f q e s.task r.below r.work x)))
