-- What is found by the keys of the latest jobs is what the definitions find by deadline, arrival and task.
-- Assumes nothing.
use Prim.Native.Nat.{ℕ, zero, suc, ◌+◌, ◌-◌, ◌*◌, ◌/◌, ◌%◌, ◌<◌, ◌≤◌, min}
use mathlib.Core.Path.{◌≡◌, refl, sym, ap, subst, ◌∙◌}
use mathlib.Core.Bool.{Bool, false}
use mathlib.Core.List.{List, [], ◌∷◌}
use mathlib.Core.Logic.{inl}
use native.Mathlib.Nat.{mod-add-div', mod-lt, div-mul-le_self}
use native.Mathlib.Decide.{ℕ_discrete}
use native.Mathlib.Omega.{arith}
use borrow.Author.Tests.{lt-ltb, le-ltb, eq-eqb, ne_eqb}
use lib.Dec.{ltb, eqb}
use lib.ListN.{get_or}
use Rattle.arith.specs.Choice.{pick, lex}
use Rattle.arith.specs.Sum.{sum_to}
use Rattle.arith.proofs.Sums.{sum_to_eq}
use Rattle.arith.proofs.Tests.{passed, failed, tested, le_yes, le_not, test_le, eq_yes, eq_not, test_eq, lex_less, lex_same, lex_more, test_lex}
use Rattle.schedule.specs.PlainSchedule.{Timing, Job, Pending, more_urgent, enqueue, latest, deadline, queue_of}
use Rattle.schedule.specs.Feasibility.{In}
use Rattle.schedule.proofs.Periods.{mod_next, mod_on}
use Rattle.schedule.proofs.QueueLaws.{latest_pending, Stands, queue_of_in}
use Rattle.schedule.proofs.Ahead.{left_drain}
use Rattle.reclaiming.specs.Orders.{next_arrival, plain_allowance}
use Rattle.reclaiming.specs.Passes.{arrives_at, largest_clock}
use Rattle.reclaiming.specs.StateBlock.{State, remaining_of, places}
use Rattle.reclaiming.specs.States.{drained_of, view_of}
use Rattle.arith.specs.Ranges.{least_to}
use Rattle.urgency.specs.Code.{Keyed, key_of, no_key, deadline_in, due_at, urgent_by, least_key, allowed_by, drained_by}
use Rattle.arith.proofs.RangeLaws.{least_le, Attained, least_at}

-- the key at the head of a queue
abbrev pub head_key : List ℕ → List Pending → ℕ
head_key keys [] = no_key
head_key keys (e ∷ q) = get_or keys e.job.task 0

-- the parts of a key
module _ (due p i : ℕ) (h : i < places) where
  pub task_of_key : key_of due p i % 16 ≡ i
  task_of_key = omega arith

  pub deadline_of_key : deadline_in (key_of due p i) ≡ due
  deadline_of_key = omega arith

-- the order of keys is that of deadlines, of arrivals and of tasks
order_is :
    (a p i b q j x y : ℕ) → p ≤ 65535 → q ≤ 65535 → i < places → j < places →
    x ≡ key_of (a + p) p i →
    y ≡ key_of (b + q) q j →
    ltb x y ≡ lex (a + p) (b + q) (lex a b (ltb i j))
order_is a p i b q j x y hp hq hi hj e f =
    elim (test_lex (a + p) (b + q) (lex a b (ltb i j))) as (λ r _. ltb x y ≡ r) [
      | lex_less h ↦ lt-ltb x y (omega arith)
      | lex_same h ↦
          elim (test_lex a b (ltb i j)) as (λ r _. ltb x y ≡ r) [
            | lex_less k ↦ lt-ltb x y (omega arith)
            | lex_same k ↦
                elim (test_le (suc i) j) as (λ r _. ltb x y ≡ r)
                [ le_yes l ↦ lt-ltb x y (omega arith) | le_not l ↦ le-ltb x y (omega arith) ]
            | lex_more k ↦ le-ltb x y (omega arith)
          ]
      | lex_more h ↦ le-ltb x y (omega arith)
    ]

-- the lesser of two numbers, by their order
min_pick : (a b : ℕ) → min a b ≡ pick (ltb a b) a b
min_pick a b =
    elim (test_le (suc a) b) as (λ r _. min a b ≡ pick r a b) [ le_yes h ↦ omega arith | le_not h ↦ omega arith ]

-- a job that comes into a queue
key_enqueue : (τ : Timing) (keys : List ℕ) (e f : Pending) (q : List Pending) →
    head_key keys (enqueue τ e (f ∷ q)) ≡ pick (more_urgent τ f.job e.job) (get_or keys f.job.task 0) (get_or keys e.job.task 0)
key_enqueue τ keys e f q =
    elim (tested (more_urgent τ f.job e.job))
    as (λ b _. head_key keys (pick b (f ∷ enqueue τ e q) (e ∷ f ∷ q)) ≡ pick b (get_or keys f.job.task 0) (get_or keys e.job.task 0))
    [ passed ↦ refl | failed ↦ refl ]

-- d ticks up to the next multiple of a period p after c: they reach it, or stay short of it
module _ (p c d : ℕ) (pos : 0 < p) (some : 1 ≤ d) (le : d ≤ p - c % p) where
  module _ (e : c / p * p + p ≡ c + d) where
    reach_mod : (c + d) % p ≡ 0
    reach_mod =
        let k : d ≡ p - c % p = omega (arith, mod-add-div' c p) in
        ap (λ (x : ℕ). (c + x) % p) k ∙ mod_next p pos c

    reach_last : (c + d) / p * p ≡ c + d
    reach_last = omega (arith, mod-add-div' (c + d) p, reach_mod)

  module _ (ne : c / p * p + p ≡ c + d → ⊥) where
    short_mod : (c + d) % p ≡ c % p + d
    short_mod = mod_on p pos c d (omega (arith, mod-add-div' c p))

    short_not : (c + d) % p ≡ 0 → ⊥
    short_not z = omega (arith, short_mod)

    short_last : (c + d) / p * p ≡ c / p * p
    short_last = omega (arith, mod-add-div' (c + d) p, mod-add-div' c p, short_mod)

module _ (τ : Timing) (t : ℕ) (keys : List ℕ) (keyed : Keyed τ t keys) where
  -- what a key holds
  module _ (i : ℕ) (h : i < τ.count) where
    pub key_below : get_or keys i 0 < no_key
    key_below =
        omega (arith, keyed.each i h, keyed.few, keyed.high i h, keyed.in_range, div-mul-le_self t (τ.period i))

    pub key_task : get_or keys i 0 % 16 ≡ i
    key_task =
        ap (λ (x : ℕ). x % 16) (keyed.each i h)
        ∙ task_of_key (deadline τ (latest τ t i)) (τ.period i) i (omega (arith, keyed.few))

    pub key_deadline : deadline_in (get_or keys i 0) ≡ deadline τ (latest τ t i)
    key_deadline =
        ap deadline_in (keyed.each i h)
        ∙ deadline_of_key (deadline τ (latest τ t i)) (τ.period i) i (omega (arith, keyed.few))

    -- a deadline is still to come
    pub key_after_lem : t < deadline_in (get_or keys i 0)
    key_after_lem =
        subst (λ (x : ℕ). t < x) (sym key_deadline)
        (omega (arith, mod-add-div' t (τ.period i), mod-lt t (keyed.low i h)))

    -- by as many ticks as the task's next arrival
    key_ticks : deadline_in (get_or keys i 0) - t ≡ τ.period i - t % τ.period i
    key_ticks =
        ap (λ (x : ℕ). x - t) key_deadline
        ∙ omega (arith, mod-add-div' t (τ.period i), mod-lt t (keyed.low i h))

  -- the order
  pub urgent_is : (i j : ℕ) → i < τ.count → j < τ.count → urgent_by keys i j ≡ more_urgent τ (latest τ t i) (latest τ t j)
  unfolding more_urgent
  urgent_is i j h k =
      order_is (latest τ t i).arrival (τ.period i) i (latest τ t j).arrival (τ.period j) j (get_or keys i 0) (get_or keys j 0)
      (keyed.high i h)
      (keyed.high j k)
      (omega (arith, keyed.few))
      (omega (arith, keyed.few))
      (keyed.each i h)
      (keyed.each j k)

  -- sums over the more urgent tasks, and over the others
  ahead_is : (f : ℕ → ℕ) (i : ℕ) → i < τ.count →
      sum_to τ.count (λ j. pick {A = ℕ} (urgent_by keys j i) (f j) 0)
      ≡ sum_to τ.count (λ j. pick {A = ℕ} (more_urgent τ (latest τ t j) (latest τ t i)) (f j) 0)
  ahead_is f i h =
      sum_to_eq τ.count (λ j. pick {A = ℕ} (urgent_by keys j i) (f j) 0)
      (λ j. pick {A = ℕ} (more_urgent τ (latest τ t j) (latest τ t i)) (f j) 0)
      (λ j k. ap (λ (b : Bool). pick {A = ℕ} b (f j) 0) (urgent_is j i k h))

  behind_is : (f : ℕ → ℕ) (x : ℕ) → x < τ.count →
      sum_to τ.count (λ j. pick {A = ℕ} (urgent_by keys x j) 0 (f j))
      ≡ sum_to τ.count (λ j. pick {A = ℕ} (more_urgent τ (latest τ t x) (latest τ t j)) 0 (f j))
  behind_is f x h =
      sum_to_eq τ.count (λ j. pick {A = ℕ} (urgent_by keys x j) 0 (f j))
      (λ j. pick {A = ℕ} (more_urgent τ (latest τ t x) (latest τ t j)) 0 (f j))
      (λ j k. ap (λ (b : Bool). pick {A = ℕ} b 0 (f j)) (urgent_is x j h k))

  -- an entry of a standing queue, against a task's job
  pub urgent_standing : (left : ℕ → ℕ) (n : ℕ) (e : Pending) → Stands τ t left n e → n < τ.count →
      urgent_by keys e.job.task n ≡ more_urgent τ e.job (latest τ t n)
  urgent_standing left n e s h =
      let k : e.job.task ≡ s.number = ap (λ (p : Pending). p.job.task) s.is in
      let j : e.job ≡ latest τ t e.job.task = ap (λ (p : Pending). p.job) s.is ∙ ap (latest τ t) (sym k) in
      urgent_is e.job.task n (omega (arith, s.below)) h ∙ ap (λ (x : Job). more_urgent τ x (latest τ t n)) (sym j)

  -- the least key of the tasks with something left is at the head of the queue
  pub least_is : (left : ℕ → ℕ) (n : ℕ) → n ≤ τ.count → least_key keys left n ≡ head_key keys (queue_of τ t left n)
  least_is left zero h = refl
  least_is left (suc n) h =
      ap (λ (x : ℕ). pick (eqb (left n) 0) x (min x (get_or keys n 0))) (least_is left n (omega arith))
      ∙ elim (test_eq (left n) 0)
      as (λ b _.
      pick b (head_key keys (queue_of τ t left n)) (min (head_key keys (queue_of τ t left n)) (get_or keys n 0))
      ≡ head_key keys (pick b (queue_of τ t left n) (enqueue τ (latest_pending τ t left n) (queue_of τ t left n))))
      [ eq_yes w ↦ refl | eq_not w ↦ go (queue_of τ t left n) (queue_of_in τ t left n) ]
    where
      go : (q : List Pending) → ((e : Pending) → In e q → Stands τ t left n e) →
          min (head_key keys q) (get_or keys n 0) ≡ head_key keys (enqueue τ (latest_pending τ t left n) q)
      go [] s = omega (arith, key_below n h)
      go (e ∷ q) s =
          min_pick (get_or keys e.job.task 0) (get_or keys n 0)
          ∙ ap (λ (b : Bool). pick b (get_or keys e.job.task 0) (get_or keys n 0)) (urgent_standing left n e (s e (inl refl)) h)
          ∙ sym (key_enqueue τ keys (latest_pending τ t left n) e q)

  -- the ticks to the next arrival
  pub next_is : 1 ≤ τ.count → deadline_in (least_to τ.count (λ i. get_or keys i 0)) - t ≡ next_arrival τ t
  next_is some =
      let key : ℕ → ℕ = λ i. get_or keys i 0 in
      let ticks : ℕ → ℕ = λ i. τ.period i - t % τ.period i in
      let a : Attained τ.count key = least_at τ.count key some in
      let b : Attained τ.count ticks = least_at τ.count ticks some in
      least_ticks t (least_to τ.count key) (key a.number) (key b.number) (least_to τ.count ticks) (ticks a.number) (ticks b.number)
      a.is
      b.is
      (key_ticks a.number a.below)
      (key_ticks b.number b.below)
      (least_le τ.count key b.number b.below)
      (least_le τ.count ticks a.number a.below)
    where
      least_ticks : (c k x y n u v : ℕ) → k ≡ x → n ≡ v → deadline_in x - c ≡ u → deadline_in y - c ≡ v → k ≤ y → n ≤ u → deadline_in k - c ≡ n
      least_ticks c k x y n u v p q r s l m =
          let o : deadline_in k ≤ deadline_in y = omega arith in
          let z : deadline_in k ≡ deadline_in x = ap deadline_in p in
          omega arith

  -- up to the next arrival, the deadlines that are reached are the arrivals
  module _ (d : ℕ) (some : 1 ≤ d) (within : d ≤ next_arrival τ t) where
    -- they are at most those to a task's next arrival
    ticks_most : (i : ℕ) → i < τ.count → d ≤ τ.period i - t % τ.period i
    ticks_most i h = omega (arith, least_le τ.count (λ j. τ.period j - t % τ.period j) i h)

    pub due_is : (i : ℕ) → i < τ.count → due_at keys (t + d) i ≡ arrives_at τ (t + d) i
    due_is i h =
        ap (λ (x : ℕ). eqb x (t + d)) (key_deadline i h)
        ∙ elim (ℕ_discrete (deadline τ (latest τ t i)) (t + d)) [
          | yes e ↦ eq-eqb (deadline τ (latest τ t i)) (t + d) e
              ∙ sym (eq-eqb ((t + d) % τ.period i) 0 (reach_mod (τ.period i) t d (keyed.low i h) some (ticks_most i h) e))
          | no e ↦ ne_eqb (deadline τ (latest τ t i)) (t + d) e
              ∙ sym (ne_eqb ((t + d) % τ.period i) 0 (short_not (τ.period i) t d (keyed.low i h) some (ticks_most i h) e))
        ]

    -- before it none is reached
    pub due_none : d < next_arrival τ t → (i : ℕ) → i < τ.count → due_at keys (t + d) i ≡ false
    due_none h i k =
        ap (λ (x : ℕ). eqb x (t + d)) (key_deadline i k)
        ∙ ne_eqb (deadline τ (latest τ t i)) (t + d)
        (λ e.
        omega (
          arith,
          least_le τ.count (λ j. τ.period j - t % τ.period j) i k,
          mod-add-div' t (τ.period i),
          mod-lt t (keyed.low i k),
        ))

    pub keyed_after :
        (r : List ℕ) → t + d ≤ largest_clock →
        ((i : ℕ) → i < τ.count → get_or r i 0 ≡ pick (due_at keys (t + d) i) (key_of (t + d + τ.period i) (τ.period i) i) (get_or keys i 0)) →
        Keyed τ (t + d) r
    keyed_after r room e = record {
      few = keyed.few;
      low = keyed.low;
      high = keyed.high;
      in_range = room;
      each = λ i h. e i h ∙ now_is i h;
    }
      where
        new : ℕ → ℕ
        new i = key_of (t + d + τ.period i) (τ.period i) i

        now_is : (i : ℕ) → i < τ.count →
            pick (due_at keys (t + d) i) (key_of (t + d + τ.period i) (τ.period i) i) (get_or keys i 0)
            ≡ key_of (deadline τ (latest τ (t + d) i)) (τ.period i) i
        now_is i h =
            ap (λ (x : ℕ). pick (eqb x (t + d)) (new i) (get_or keys i 0)) (key_deadline i h)
            ∙ elim (ℕ_discrete (deadline τ (latest τ t i)) (t + d)) [
              | yes z ↦ ap (λ (b : Bool). pick b (new i) (get_or keys i 0)) (eq-eqb (deadline τ (latest τ t i)) (t + d) z)
                  ∙ ap (λ (x : ℕ). key_of (x + τ.period i) (τ.period i) i) (sym (reach_last (τ.period i) t d (keyed.low i h) some (ticks_most i h) z))
              | no z ↦ ap (λ (b : Bool). pick b (new i) (get_or keys i 0)) (ne_eqb (deadline τ (latest τ t i)) (t + d) z)
                  ∙ keyed.each i h
                  ∙ ap (λ (x : ℕ). key_of (x + τ.period i) (τ.period i) i) (sym (short_last (τ.period i) t d (keyed.low i h) some (ticks_most i h) z))
            ]

-- before the next arrival the keys stay
pub keyed_on :
    (τ : Timing) (t : ℕ) (keys : List ℕ) → Keyed τ t keys → (d : ℕ) → 1 ≤ d → d < next_arrival τ t → t + d ≤ largest_clock → Keyed τ (t + d) keys
keyed_on τ t keys keyed d some before room =
    let within : d ≤ next_arrival τ t = omega arith in
    keyed_after τ t keys keyed d some within keys room
    (λ i h.
    ap (λ (b : Bool). pick b (key_of (t + d + τ.period i) (τ.period i) i) (get_or keys i 0))
    (sym (due_none τ t keys keyed d some within before i h)))

-- the same of a state
module _ (τ : Timing) (s : State) (keys : List ℕ) (keyed : Keyed τ s.clock keys) where
  -- what d ticks leave of a task's remaining ticks
  pub drained_is : (d i : ℕ) → i < τ.count → drained_by keys (remaining_of s) τ.count d i ≡ drained_of τ s d i
  drained_is d i h =
      ap (λ (x : ℕ). remaining_of s i - (d - x)) (ahead_is τ s.clock keys keyed (remaining_of s) i h)
      ∙ sym (left_drain τ s.clock (remaining_of s) τ.count d i h)

  -- 01's allowance of a task's job
  pub allowance_is : (x : ℕ) → x < τ.count → allowed_by keys (remaining_of s) τ.count (get_or keys x 0) ≡ plain_allowance τ (view_of s) x
  allowance_is x h = behind_is τ s.clock keys keyed (remaining_of s) x h
