-- Many ticks taken at once: as long as no job arrives between, they only drain the ready queue.
-- Assumes nothing.
use Prim.Native.Nat.{ℕ, zero, suc, ◌+◌, ◌-◌, ◌*◌, ◌/◌, ◌%◌, ◌≤◌, ◌<◌}
use mathlib.Core.Path.{◌≡◌, refl, ap, sym, ◌∙◌, subst}
use mathlib.Core.List.{List, [], ◌∷◌}
use mathlib.Core.Logic.{inl, inr, ◌≢◌}
use native.Mathlib.Nat.{sub-zero, lt_irrefl}
use native.Mathlib.Decide.{ℕ_discrete}
use native.Mathlib.Omega.{arith}
use Rattle.arith.specs.Choice.{pick}
use Rattle.arith.proofs.Tests.{le_yes, le_not, test_le}
use Rattle.schedule.specs.PlainSchedule.{Timing, Pending, Book, serve, drain, arrive, tick, after, latest}
use Rattle.schedule.specs.Feasibility.{In}
use Rattle.schedule.proofs.Members.{all_in, in_all}
use Rattle.schedule.proofs.Queue.{Sorted, Positive}
use Rattle.schedule.proofs.Arrivals.{arrive_none}
use Rattle.schedule.proofs.Periods.{quiet_last}

-- an entry with d ticks taken from it
abbrev pub taken : ℕ → Pending → Pending
taken d e = record { job = e.job; remaining = e.remaining - d }

-- by its parts
taken_path : (e : Pending) (d r : ℕ) → e.remaining - d ≡ r → taken d e ≡ record { job = e.job; remaining = r }
taken_path e d r x = λ i. record { job = e.job; remaining = x i }

-- no tick changes nothing
pub drain_zero : (q : List Pending) → Positive q → drain 0 q ≡ q
drain_zero [] a = refl
drain_zero (e ∷ q) a =
    elim (test_le 1 e.remaining) as (λ b _. pick b (taken 0 e ∷ q) (drain (0 - e.remaining) q) ≡ e ∷ q)
    [ le_yes h ↦ ap (λ (f : Pending). f ∷ q) (taken_path e 0 e.remaining (sub-zero e.remaining)) | le_not h ↦ absurd (omega (arith, a.0)) ]

-- one tick is the plain schedule's
pub drain_one : (q : List Pending) → Positive q → drain 1 q ≡ serve q
drain_one [] a = refl
drain_one (e ∷ q) a =
    elim (test_le e.remaining 1) as (λ b _. drain 1 (e ∷ q) ≡ pick b q (taken 1 e ∷ q)) [
      | le_yes h ↦
          elim (test_le 2 e.remaining) as (λ b _. pick b (taken 1 e ∷ q) (drain (1 - e.remaining) q) ≡ q) [
            | le_yes k ↦ absurd (omega arith)
            | le_not k ↦ let z : 1 - e.remaining ≡ 0 = omega (arith, a.0) in ap (λ (x : ℕ). drain x q) z ∙ drain_zero q a.1
          ]
      | le_not h ↦
          elim (test_le 2 e.remaining) as (λ b _. pick b (taken 1 e ∷ q) (drain (1 - e.remaining) q) ≡ taken 1 e ∷ q)
          [ le_yes k ↦ refl | le_not k ↦ absurd (omega arith) ]
    ]

-- ticks may be taken in two parts
pub drain_add : (a b : ℕ) (q : List Pending) → drain (a + b) q ≡ drain b (drain a q)
drain_add a b [] = refl
drain_add a b (e ∷ q) =
    elim (test_le (suc a) e.remaining) as (λ s _. drain (a + b) (e ∷ q) ≡ drain b (pick s (taken a e ∷ q) (drain (a - e.remaining) q))) [
      | le_yes h ↦
          elim (test_le (suc (a + b)) e.remaining)
          as (λ s _. pick s (taken (a + b) e ∷ q) (drain (a + b - e.remaining) q) ≡ drain b (taken a e ∷ q)) [
            | le_yes k ↦
                elim (test_le (suc b) (e.remaining - a))
                as (λ s _. taken (a + b) e ∷ q ≡ pick s (taken b (taken a e) ∷ q) (drain (b - (e.remaining - a)) q))
                [ le_yes w ↦ ap (λ (f : Pending). f ∷ q) (taken_path e (a + b) (e.remaining - a - b) (omega arith)) | le_not w ↦ absurd (omega arith) ]
            | le_not k ↦
                elim (test_le (suc b) (e.remaining - a))
                as (λ s _. drain (a + b - e.remaining) q ≡ pick s (taken b (taken a e) ∷ q) (drain (b - (e.remaining - a)) q)) [
                  | le_yes w ↦ absurd (omega arith)
                  | le_not w ↦ let z : a + b - e.remaining ≡ b - (e.remaining - a) = omega arith in ap (λ (x : ℕ). drain x q) z
                ]
          ]
      | le_not h ↦
          elim (test_le (suc (a + b)) e.remaining)
          as (λ s _. pick s (taken (a + b) e ∷ q) (drain (a + b - e.remaining) q) ≡ drain b (drain (a - e.remaining) q)) [
            | le_yes k ↦ absurd (omega arith)
            | le_not k ↦
                let z : a + b - e.remaining ≡ a - e.remaining + b = omega arith in
                ap (λ (x : ℕ). drain x q) z ∙ drain_add (a - e.remaining) b q
          ]
    ]

-- e has its job from an entry of q, and ticks left
pub record Was (q : List Pending) (e : Pending) : Type 0 where
  pub entry : Pending
  pub member : In entry q
  pub job : e.job ≡ entry.job
  pub some : 0 < e.remaining

-- draining brings nothing in
pub drain_was : (d : ℕ) (q : List Pending) → Positive q → (e : Pending) → In e (drain d q) → Was q e
drain_was d [] a e = λ m. absurd m
drain_was d (f ∷ q) a e =
    elim (test_le (suc d) f.remaining) as (λ b _. In e (pick b (taken d f ∷ q) (drain (d - f.remaining) q)) → Was (f ∷ q) e) [
      | le_yes h ↦
          λ m.
          elim m [
            | inl x ↦ subst (Was (f ∷ q)) (sym x) (record { entry = f; member = inl refl; job = refl; some = omega arith })
            | inr n ↦ record { entry = e; member = inr n; job = refl; some = all_in (λ (g : Pending). 0 < g.remaining) q a.1 e n }
          ]
      | le_not h ↦ λ m. behind (drain_was (d - f.remaining) q a.1 e m)
    ]
  where
    behind : Was q e → Was (f ∷ q) e
    behind w = record { entry = w.entry; member = inr w.member; job = w.job; some = w.some }

-- nor does it leave an entry with nothing left
pub drain_positive : (d : ℕ) (q : List Pending) → Positive q → Positive (drain d q)
drain_positive d q a = in_all (λ (e : Pending). 0 < e.remaining) (drain d q) (λ e m. (drain_was d q a e m).some)

-- and the order stays
pub drain_sorted : (τ : Timing) (d : ℕ) (q : List Pending) → Sorted τ q → Sorted τ (drain d q)
drain_sorted τ d [] s = tt
drain_sorted τ d (e ∷ q) s =
    elim (test_le (suc d) e.remaining) as (λ b _. Sorted τ (pick b (taken d e ∷ q) (drain (d - e.remaining) q)))
    [ le_yes h ↦ s | le_not h ↦ drain_sorted τ (d - e.remaining) q s.1 ]

-- no task below n has an arrival strictly between t and t + d
abbrev pub Quiet : Timing → ℕ → ℕ → ℕ → Type 0
Quiet τ n t d = (i k : ℕ) → i < n → 0 < k → k < d → (t + k) % τ.period i ≢ 0

-- then a task that has none at t + d either keeps its job
pub latest_kept : (τ : Timing) (n t d i : ℕ) → i < n → 0 < τ.period i → Quiet τ n t d → (t + d) % τ.period i ≢ 0 → latest τ t i ≡ latest τ (t + d) i
latest_kept τ n t d i h p quiet z =
    let q : (t + d) / τ.period i ≡ t / τ.period i = quiet_last (τ.period i) p t d up in
    λ k. record { task = i; arrival = sym q k * τ.period i }
  where
    up : (k : ℕ) → 0 < k → k ≤ d → (t + k) % τ.period i ≢ 0
    up k x y = elim (ℕ_discrete k d) [ yes e ↦ subst (λ (u : ℕ). (t + u) % τ.period i ≢ 0) (sym e) z | no e ↦ quiet i k h x (omega arith) ]

module _ (τ : Timing) where
  -- the book d ticks on, if no job arrives before the last of them
  abbrev onward : ℕ → Book → Book
  onward d b = record { clock = b.clock + d; pending = arrive τ (b.clock + d) τ.count (drain d b.pending) }

  -- a tick from a queue q on leads to a book that is equal by its parts
  tick_path : (c c' : ℕ) (p q : List Pending) → suc c ≡ c' → serve p ≡ q →
      tick τ (record { clock = c; pending = p }) ≡ record { clock = c'; pending = arrive τ c' τ.count q }
  tick_path c c' p q x y = λ i. record { clock = x i; pending = arrive τ (x i) τ.count (y i) }

  -- tick by tick: each before the last only drains
  stepwise : (d : ℕ) (b : Book) → Positive b.pending → Quiet τ τ.count b.clock (suc d) → after τ (suc d) b ≡ onward (suc d) b
  stepwise zero b a h = tick_path b.clock (b.clock + 1) b.pending (drain 1 b.pending) (omega arith) (sym (drain_one b.pending a))
  stepwise (suc d) b a h =
      ap (tick τ) (stepwise d b a (λ i k x y z. h i k x y (omega arith)))
      ∙ tick_path (b.clock + suc d) (b.clock + suc (suc d)) (onward (suc d) b).pending (drain (suc (suc d)) q) (omega arith) (ap serve none ∙ sym last)
    where
      q : List Pending
      q = b.pending

      none : arrive τ (b.clock + suc d) τ.count (drain (suc d) q) ≡ drain (suc d) q
      none = arrive_none τ (b.clock + suc d) (drain (suc d) q) τ.count (λ i k. h i (suc d) k (omega arith) (omega arith))

      last : drain (suc (suc d)) q ≡ serve (drain (suc d) q)
      last =
          let z : suc (suc d) ≡ suc d + 1 = omega arith in
          ap (λ (x : ℕ). drain x q) z ∙ drain_add (suc d) 1 q ∙ drain_one (drain (suc d) q) (drain_positive (suc d) q a)

  -- d ticks with no arrival before the last: the queue is onward, and then the jobs arrive
  pub after_drain : (d : ℕ) (b : Book) → 0 < d → Positive b.pending → Quiet τ τ.count b.clock d →
      after τ d b ≡ record { clock = b.clock + d; pending = arrive τ (b.clock + d) τ.count (drain d b.pending) }
  after_drain zero b k a h = absurd (lt_irrefl 0 k)
  after_drain (suc d) b k a h = stepwise d b a h
