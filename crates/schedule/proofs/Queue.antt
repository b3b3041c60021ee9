-- The ready queue: strictly sorted by urgency, hence determined by its members.
-- Assumes nothing.
use Prim.Native.Nat.{ℕ, suc, ◌+◌, ◌-◌, ◌<◌}
use mathlib.Core.Path.{◌≡◌, refl, ap, ap₂, sym, ◌∙◌, subst}
use mathlib.Core.List.{List, [], ◌∷◌}
use mathlib.Core.Logic.{◌⊎◌, inl, inr, ◌≢◌}
use native.Mathlib.Omega.{arith}
use lib.ListN.{length}
use Rattle.arith.specs.Choice.{pick}
use Rattle.arith.specs.Sum.{sum_of}
use Rattle.arith.proofs.Tests.{le_yes, le_not, test_le, passed, failed, tested}
use Rattle.schedule.specs.PlainSchedule.{Timing, Job, Pending, more_urgent, enqueue, serve}
use Rattle.schedule.specs.Feasibility.{All, In}
use Rattle.schedule.proofs.Urgency.{MoreUrgent, ahead, same, behind, compared, irreflexive, asymmetric, transitive}
use Rattle.schedule.proofs.Members.{all_in, in_all}

-- the entry is more urgent than every one of the queue
abbrev pub Leads : Timing → Pending → List Pending → Type 0
Leads τ e q = All (λ (f : Pending). MoreUrgent τ e.job f.job) q

-- each entry is more urgent than every later one
abbrev pub Sorted : Timing → List Pending → Type 0
Sorted τ [] = Unit {0}
Sorted τ (e ∷ q) = Leads τ e q × Sorted τ q

-- every entry has ticks left
abbrev pub Positive : List Pending → Type 0
Positive q = All (λ (e : Pending). 0 < e.remaining) q

-- a leading entry is more urgent than any member
pub leads_in : (τ : Timing) (e : Pending) (q : List Pending) → Leads τ e q → (f : Pending) → In f q → MoreUrgent τ e.job f.job
leads_in τ e q = all_in (λ (f : Pending). MoreUrgent τ e.job f.job) q

-- and an entry that is more urgent than each member leads
pub in_leads : (τ : Timing) (e : Pending) (q : List Pending) → ((f : Pending) → In f q → MoreUrgent τ e.job f.job) → Leads τ e q
in_leads τ e q = in_all (λ (f : Pending). MoreUrgent τ e.job f.job) q

-- so its job is none of theirs
pub leads_apart : (τ : Timing) (e : Pending) (q : List Pending) → Leads τ e q → (f : Pending) → In f q → f.job ≢ e.job
leads_apart τ e q a f m x = irreflexive τ e.job (subst (λ (j : Job). MoreUrgent τ e.job j) x (leads_in τ e q a f m))

module _ (τ : Timing) (f : Pending) where
  -- nothing but the new entry comes into a queue
  pub enqueue_in : (q : List Pending) (e : Pending) → In e (enqueue τ f q) → (e ≡ f) ⊎ In e q
  enqueue_in [] e = λ m. m
  enqueue_in (g ∷ q) e =
      elim (compared τ g.job f.job) as (λ s _. In e (pick s (g ∷ enqueue τ f q) (f ∷ g ∷ q)) → (e ≡ f) ⊎ In e (g ∷ q)) [
        | ahead h ↦ λ m. elim m [ inl x ↦ inr (inl x) | inr n ↦ elim (enqueue_in q e n) [ inl x ↦ inl x | inr k ↦ inr (inr k) ] ]
        | same h ↦ λ m. m
        | behind h ↦ λ m. m
      ]

  -- the new entry is in it, and the old ones stay
  pub in_enqueue : (q : List Pending) (e : Pending) → (e ≡ f) ⊎ In e q → In e (enqueue τ f q)
  in_enqueue [] e m = m
  in_enqueue (g ∷ q) e m =
      elim (compared τ g.job f.job) as (λ s _. In e (pick s (g ∷ enqueue τ f q) (f ∷ g ∷ q))) [
        | ahead h ↦
            elim m [
              | inl x ↦ inr (in_enqueue q e (inl x))
              | inr n ↦ elim n [ inl x ↦ inl x | inr k ↦ inr (in_enqueue q e (inr k)) ]
            ]
        | same h ↦ m
        | behind h ↦ m
      ]

  -- a job that is not in the queue yet takes a place that keeps it sorted
  pub enqueue_sorted : (q : List Pending) → Sorted τ q → All (λ (e : Pending). e.job ≢ f.job) q → Sorted τ (enqueue τ f q)
  enqueue_sorted [] s a = (tt, tt)
  enqueue_sorted (g ∷ q) s a =
      elim (compared τ g.job f.job) as (λ b _. Sorted τ (pick b (g ∷ enqueue τ f q) (f ∷ g ∷ q))) [
        | ahead h ↦ (in_leads τ g (enqueue τ f q) (leads h), enqueue_sorted q s.1 a.1)
        | same h ↦ absurd (a.0 h)
        | behind h ↦ ((h, in_leads τ f q (λ e m. transitive h (leads_in τ g q s.0 e m))), s)
      ]
    where
      leads : MoreUrgent τ g.job f.job → (e : Pending) → In e (enqueue τ f q) → MoreUrgent τ g.job e.job
      leads h e m =
          elim (enqueue_in q e m) [
            | inl x ↦ subst (λ (y : Pending). MoreUrgent τ g.job y.job) (sym x) h
            | inr k ↦ leads_in τ g q s.0 e k
          ]

  -- a sum over the queue does not depend on the place that the new entry takes
  pub enqueue_sum : (w : Pending → ℕ) (q : List Pending) → sum_of w (enqueue τ f q) ≡ w f + sum_of w q
  enqueue_sum w [] = refl
  enqueue_sum w (g ∷ q) =
      elim (compared τ g.job f.job) as (λ s _. sum_of w (pick s (g ∷ enqueue τ f q) (f ∷ g ∷ q)) ≡ w f + (w g + sum_of w q))
      [ ahead h ↦ omega (arith, enqueue_sum w q) | same h ↦ refl | behind h ↦ refl ]

  -- nor does its length
  pub enqueue_length : (q : List Pending) → length (enqueue τ f q) ≡ suc (length q)
  enqueue_length [] = refl
  enqueue_length (g ∷ q) =
      elim (tested (more_urgent τ g.job f.job)) as (λ s _. length (pick s (g ∷ enqueue τ f q) (f ∷ g ∷ q)) ≡ suc (suc (length q)))
      [ passed ↦ ap suc (enqueue_length q) | failed ↦ refl ]

-- a tick leaves the order as it is: the head keeps its job or goes
pub serve_sorted : (τ : Timing) (q : List Pending) → Sorted τ q → Sorted τ (serve q)
serve_sorted τ [] s = tt
serve_sorted τ (e ∷ q) s =
    elim (test_le e.remaining 1) as (λ b _. Sorted τ (pick b q (record { job = e.job; remaining = e.remaining - 1 } ∷ q)))
    [ le_yes h ↦ s.1 | le_not h ↦ s ]

-- a job has one entry
pub sorted_single : (τ : Timing) (q : List Pending) → Sorted τ q → (e f : Pending) → In e q → In f q → e.job ≡ f.job → e ≡ f
sorted_single τ [] s e f m n x = absurd m
sorted_single τ (g ∷ q) s e f (inl y) (inl z) x = y ∙ sym z
sorted_single τ (g ∷ q) s e f (inl y) (inr n) x = absurd (leads_apart τ g q s.0 f n (sym x ∙ ap (λ (p : Pending). p.job) y))
sorted_single τ (g ∷ q) s e f (inr m) (inl z) x = absurd (leads_apart τ g q s.0 e m (x ∙ ap (λ (p : Pending). p.job) z))
sorted_single τ (g ∷ q) s e f (inr m) (inr n) x = sorted_single τ q s.1 e f m n x

-- two sorted queues with the same members are equal
pub same_members : (τ : Timing) (p q : List Pending) → Sorted τ p → Sorted τ q →
    ((e : Pending) → In e p → In e q) → ((e : Pending) → In e q → In e p) → p ≡ q
same_members τ [] [] s r to back = refl
same_members τ [] (f ∷ q) s r to back = absurd (back f (inl refl))
same_members τ (e ∷ p) [] s r to back = absurd (to e (inl refl))
same_members τ (e ∷ p) (f ∷ q) s r to back =
    ap₂ ◌∷◌ heads (same_members τ p q s.1 r.1 (tails e p f q heads s.0 to) (tails f q e p (sym heads) r.0 back))
  where
    head : (e ≡ f) ⊎ In e q → (f ≡ e) ⊎ In f p → e ≡ f
    head (inl x) k = x
    head (inr m) (inl y) = sym y
    head (inr m) (inr n) = absurd (asymmetric (leads_in τ f q r.0 e m) (leads_in τ e p s.0 f n))

    heads : e ≡ f
    heads = head (to e (inl refl)) (back f (inl refl))

    -- a member behind the head is found behind the other head
    tails : (a : Pending) (u : List Pending) (b : Pending) (v : List Pending) → a ≡ b → Leads τ a u →
        ((g : Pending) → In g (a ∷ u) → In g (b ∷ v)) → (g : Pending) → In g u → In g v
    tails a u b v x l f g m =
        elim (f g (inr m)) [ inl y ↦ absurd (leads_apart τ a u l g m (ap (λ (p : Pending). p.job) (y ∙ sym x))) | inr n ↦ n ]
