-- Laws of the ready queue as a function of each task's remaining ticks.
-- Assumes nothing.
use Prim.Native.Nat.{ℕ, zero, suc, ◌≤◌, ◌<◌}
use mathlib.Core.Path.{◌≡◌, refl, ap, ap₂, sym, ◌∙◌, subst}
use mathlib.Core.List.{List, [], ◌∷◌}
use mathlib.Core.Logic.{inl, inr, ◌≢◌}
use native.Mathlib.Decide.{ℕ_discrete, dec_le}
use native.Mathlib.Omega.{arith}
use lib.Dec.{eqb}
use lib.ListN.{length}
use Rattle.arith.specs.Choice.{pick}
use Rattle.arith.proofs.Tests.{eq_yes, eq_not, test_eq}
use Rattle.schedule.specs.PlainSchedule.{Timing, Job, Pending, enqueue, drain, latest, queue_of, left_in}
use Rattle.schedule.specs.Feasibility.{All, In}
use Rattle.schedule.proofs.Members.{all_in, in_all}
use Rattle.schedule.proofs.Queue.{Sorted, Positive, enqueue_in, in_enqueue, enqueue_sorted, enqueue_length, sorted_single, same_members}
use Rattle.schedule.proofs.Drain.{Was, drain_was, drain_sorted}

-- task i's entry, if it has ticks left
abbrev pub latest_pending : Timing → ℕ → (ℕ → ℕ) → ℕ → Pending
latest_pending τ t left i = record { job = latest τ t i; remaining = left i }

-- e is the entry of a task below n that has ticks left
pub record Stands (τ : Timing) (t : ℕ) (left : ℕ → ℕ) (n : ℕ) (e : Pending) : Type 0 where
  pub number : ℕ
  pub below : number < n
  pub some : 0 < left number
  pub is : e ≡ latest_pending τ t left number

module _ (τ : Timing) (t : ℕ) (left : ℕ → ℕ) where
  -- a task below n is below suc n
  wider : (n : ℕ) (e : Pending) → Stands τ t left n e → Stands τ t left (suc n) e
  wider n e s = record { number = s.number; below = omega arith; some = s.some; is = s.is }

  -- every member is the entry of a task that has ticks left
  pub queue_of_in : (n : ℕ) (e : Pending) → In e (queue_of τ t left n) → Stands τ t left n e
  queue_of_in zero e = λ m. absurd m
  queue_of_in (suc i) e =
      elim (test_eq (left i) 0)
      as (λ b _. In e (pick b (queue_of τ t left i) (enqueue τ (latest_pending τ t left i) (queue_of τ t left i))) → Stands τ t left (suc i) e) [
        | eq_yes h ↦ λ m. wider i e (queue_of_in i e m)
        | eq_not h ↦
            λ m.
            elim (enqueue_in τ (latest_pending τ t left i) (queue_of τ t left i) e m)
            [ inl x ↦ record { number = i; below = omega arith; some = omega arith; is = x } | inr k ↦ wider i e (queue_of_in i e k) ]
      ]

  -- a task's entry, as a member
  entry_in_lem : (n i : ℕ) → i < n → 0 < left i → In (latest_pending τ t left i) (queue_of τ t left n)
  entry_in_lem zero i h k = absurd (omega arith)
  entry_in_lem (suc n) i h k =
      elim (test_eq (left n) 0)
      as (λ b _. In (latest_pending τ t left i) (pick b (queue_of τ t left n) (enqueue τ (latest_pending τ t left n) (queue_of τ t left n)))) [
        | eq_yes z ↦ elim (ℕ_discrete i n) [ yes x ↦ absurd (empty x z) | no x ↦ entry_in_lem n i (omega arith) k ]
        | eq_not z ↦
            in_enqueue τ (latest_pending τ t left n) (queue_of τ t left n) (latest_pending τ t left i)
            (elim (ℕ_discrete i n) [ yes x ↦ inl (ap (latest_pending τ t left) x) | no x ↦ inr (entry_in_lem n i (omega arith) k) ])
      ]
    where
      empty : i ≡ n → left n ≡ 0 → ⊥
      empty x z = let y : left i ≡ left n = ap left x in omega arith

  -- every such entry is a member
  pub in_queue_of : (n : ℕ) (e : Pending) → Stands τ t left n e → In e (queue_of τ t left n)
  in_queue_of n e s = subst (λ (f : Pending). In f (queue_of τ t left n)) (sym s.is) (entry_in_lem n s.number s.below s.some)

  -- distinct tasks have distinct jobs, so each finds its place
  pub queue_of_sorted : (n : ℕ) → Sorted τ (queue_of τ t left n)
  queue_of_sorted zero = tt
  queue_of_sorted (suc i) =
      elim (test_eq (left i) 0) as (λ b _. Sorted τ (pick b (queue_of τ t left i) (enqueue τ (latest_pending τ t left i) (queue_of τ t left i)))) [
        | eq_yes h ↦ queue_of_sorted i
        | eq_not h ↦
            enqueue_sorted τ (latest_pending τ t left i) (queue_of τ t left i) (queue_of_sorted i)
            (in_all (λ (e : Pending). e.job ≢ latest τ t i) (queue_of τ t left i) (λ e m. apart e (queue_of_in i e m)))
      ]
    where
      apart : (e : Pending) → Stands τ t left i e → e.job ≢ latest τ t i
      apart e s x = omega (arith, ap (λ (j : Job). j.task) x, ap (λ (p : Pending). p.job.task) s.is)

  -- tasks with nothing left are not in it
  pub queue_of_positive : (n : ℕ) → Positive (queue_of τ t left n)
  queue_of_positive n =
      in_all (λ (e : Pending). 0 < e.remaining) (queue_of τ t left n)
      (λ e m. let s : Stands τ t left n e = queue_of_in n e m in subst (λ (p : Pending). 0 < p.remaining) (sym s.is) s.some)

  -- it has at most one entry for each task
  pub queue_of-length : (n : ℕ) → length (queue_of τ t left n) ≤ n
  queue_of-length zero = omega arith
  queue_of-length (suc i) =
      elim (test_eq (left i) 0)
      as (λ b _. length (pick b (queue_of τ t left i) (enqueue τ (latest_pending τ t left i) (queue_of τ t left i))) ≤ suc i) [
        | eq_yes h ↦ omega (arith, queue_of-length i)
        | eq_not h ↦ omega (arith, queue_of-length i, enqueue_length τ (latest_pending τ t left i) (queue_of τ t left i))
      ]

-- only the tasks below n count
pub queue_of_cong : (τ : Timing) (t : ℕ) (f g : ℕ → ℕ) (n : ℕ) → ((i : ℕ) → i < n → f i ≡ g i) → queue_of τ t f n ≡ queue_of τ t g n
queue_of_cong τ t f g zero h = refl
queue_of_cong τ t f g (suc i) h =
    ap₂ (λ (v : ℕ) (q : List Pending). pick (eqb v 0) q (enqueue τ (record { job = latest τ t i; remaining = v }) q))
    (h i (omega arith)) (queue_of_cong τ t f g i (λ j x. h j (omega arith)))

-- of its own task the head has what is left
pub left_mine : (i : ℕ) (e : Pending) (q : List Pending) → e.job.task ≡ i → left_in i (e ∷ q) ≡ e.remaining
left_mine i e q x =
    elim (test_eq e.job.task i) as (λ b _. pick {A = ℕ} b e.remaining (left_in i q) ≡ e.remaining)
    [ eq_yes y ↦ refl | eq_not y ↦ absurd (y x) ]

-- of another's nothing
pub left_other : (i : ℕ) (e : Pending) (q : List Pending) → e.job.task ≢ i → left_in i (e ∷ q) ≡ left_in i q
left_other i e q x =
    elim (test_eq e.job.task i) as (λ b _. pick {A = ℕ} b e.remaining (left_in i q) ≡ left_in i q)
    [ eq_yes y ↦ absurd (x y) | eq_not y ↦ refl ]

-- what a queue has left for a task is an entry's, or there is none
pub data Found (i : ℕ) (q : List Pending) : Type 0 where
  found : (e : Pending) → In e q → e.job.task ≡ i → e.remaining ≡ left_in i q → Found i q
  missing : left_in i q ≡ 0 → ((e : Pending) → In e q → e.job.task ≢ i) → Found i q

-- which of the two holds is found by looking
pub look : (i : ℕ) (q : List Pending) → Found i q
look i [] = missing refl (λ e m. absurd m)
look i (f ∷ q) = ahead (ℕ_discrete f.job.task i) (look i q)
  where
    ahead : Dec (f.job.task ≡ i) → Found i q → Found i (f ∷ q)
    ahead (yes x) w = found f (inl refl) x (sym (left_mine i f q x))
    ahead (no x) (found e m y z) = found e (inr m) y (z ∙ sym (left_other i f q x))
    ahead (no x) (missing z a) =
        missing (left_other i f q x ∙ z)
        (λ e m. elim m [ inl y ↦ λ u. x (sym (ap (λ (p : Pending). p.job.task) y) ∙ u) | inr n ↦ a e n ])

-- with no entry of a task nothing is left of it
pub left_none : (i : ℕ) (q : List Pending) → ((e : Pending) → In e q → e.job.task ≢ i) → left_in i q ≡ 0
left_none i q h = elim (look i q) [ found e m x y ↦ absurd (h e m x) | missing x a ↦ x ]

-- a standing queue has left what it was made from
pub left_queue_of : (τ : Timing) (t : ℕ) (left : ℕ → ℕ) (n i : ℕ) → i < n → left_in i (queue_of τ t left n) ≡ left i
left_queue_of τ t left n i h = go (look i (queue_of τ t left n))
  where
    q : List Pending
    q = queue_of τ t left n

    go : Found i q → left_in i q ≡ left i
    go (found e m x y) =
        let s : Stands τ t left n e = queue_of_in τ t left n e m in
        let k : s.number ≡ i = sym (ap (λ (p : Pending). p.job.task) s.is) ∙ x in
        sym y ∙ ap (λ (p : Pending). p.remaining) s.is ∙ ap left k
    go (missing x a) =
        elim (dec_le 1 (left i)) [
          | yes k ↦ absurd (a (latest_pending τ t left i) (in_queue_of τ t left n (latest_pending τ t left i) (record { number = i; below = h; some = k; is = refl })) refl)
          | no k ↦ omega arith
        ]

-- an entry of the latest job of a task below n
pub record Stood (τ : Timing) (t n : ℕ) (e : Pending) : Type 0 where
  pub task : e.job.task < n
  pub job : e.job ≡ latest τ t e.job.task
  pub some : 0 < e.remaining

-- a sorted queue of such entries is the standing queue of what it has left
pub stood_queue_of : (τ : Timing) (t n : ℕ) (q : List Pending) → Sorted τ q → All (Stood τ t n) q → q ≡ queue_of τ t (λ i. left_in i q) n
stood_queue_of τ t n q s a = same_members τ q (queue_of τ t (λ i. left_in i q) n) s (queue_of_sorted τ t (λ i. left_in i q) n) to back
  where
    stood : (e : Pending) → In e q → Stood τ t n e
    stood = all_in (Stood τ t n) q a

    -- a task has one entry
    single : (e f : Pending) → In e q → In f q → e.job.task ≡ f.job.task → e ≡ f
    single e f m k x = sorted_single τ q s e f m k ((stood e m).job ∙ ap (latest τ t) x ∙ sym (stood f k).job)

    own : (e : Pending) → In e q → Found e.job.task q → left_in e.job.task q ≡ e.remaining
    own e m (found f k x y) = sym y ∙ ap (λ (p : Pending). p.remaining) (single f e k m x)
    own e m (missing x b) = absurd (b e m refl)

    to : (e : Pending) → In e q → In e (queue_of τ t (λ i. left_in i q) n)
    to e m =
        let w : left_in e.job.task q ≡ e.remaining = own e m (look e.job.task q) in
        in_queue_of τ t (λ i. left_in i q) n e
        (record { number = e.job.task; below = (stood e m).task; some = rw w (stood e m).some; is = λ i. record { job = (stood e m).job i; remaining = sym w i } })

    entry : (i : ℕ) → 0 < left_in i q → Found i q → In (latest_pending τ t (λ j. left_in j q) i) q
    entry i h (found e m x y) =
        subst (λ (p : Pending). In p q) (λ k. record { job = ((stood e m).job ∙ ap (latest τ t) x) k; remaining = y k }) m
    entry i h (missing x b) = absurd (omega arith)

    back : (e : Pending) → In e (queue_of τ t (λ i. left_in i q) n) → In e q
    back e m =
        let w : Stands τ t (λ i. left_in i q) n e = queue_of_in τ t (λ i. left_in i q) n e m in
        subst (λ (p : Pending). In p q) (sym w.is) (entry w.number w.some (look w.number q))

module _ (τ : Timing) (t : ℕ) (left : ℕ → ℕ) (n d : ℕ) where
  -- draining takes ticks and entries, and changes no job
  pub drain_stood : (e : Pending) → In e (drain d (queue_of τ t left n)) → Stood τ t n e
  drain_stood e m =
      let w : Was (queue_of τ t left n) e = drain_was d (queue_of τ t left n) (queue_of_positive τ t left n) e m in
      let s : Stands τ t left n w.entry = queue_of_in τ t left n w.entry w.member in
      let j : e.job ≡ latest τ t s.number = w.job ∙ ap (λ (p : Pending). p.job) s.is in
      let k : e.job.task ≡ s.number = ap (λ (x : Job). x.task) j in
      record { task = subst (λ (x : ℕ). x < n) (sym k) s.below; job = j ∙ ap (latest τ t) (sym k); some = w.some }

  -- so a drained standing queue is a standing queue
  pub drain_queue_of : drain d (queue_of τ t left n) ≡ queue_of τ t (λ i. left_in i (drain d (queue_of τ t left n))) n
  drain_queue_of =
      stood_queue_of τ t n (drain d (queue_of τ t left n)) (drain_sorted τ d (queue_of τ t left n) (queue_of_sorted τ t left n))
      (in_all (Stood τ t n) (drain d (queue_of τ t left n)) drain_stood)
