-- The order of urgency: strict, and total on jobs.
-- Assumes nothing.
use Prim.Native.Nat.{suc, ◌≤◌, ◌<◌}
use mathlib.Core.Path.{◌≡◌, refl, sym, subst}
use mathlib.Core.Bool.{Bool, true, false}
use mathlib.Core.Logic.{◌⊎◌, inl, inr}
use native.Mathlib.Decide.{dec_le}
use native.Mathlib.Omega.{arith}
use lib.Dec.{ltb}
use Rattle.arith.specs.Choice.{lex}
use Rattle.arith.proofs.Tests.{le_yes, le_not, test_le, lex_less, lex_same, lex_more, test_lex}
use Rattle.schedule.specs.PlainSchedule.{Timing, Job, deadline, more_urgent}

-- one constructor for each way in which a is more urgent than b
pub data MoreUrgent (τ : Timing) (a b : Job) : Type 0 where
  earlier : deadline τ a < deadline τ b → MoreUrgent τ a b
  older : deadline τ a ≡ deadline τ b → a.arrival < b.arrival → MoreUrgent τ a b
  lower : deadline τ a ≡ deadline τ b → a.arrival ≡ b.arrival → a.task < b.task → MoreUrgent τ a b

-- what the test says of two jobs, whichever way it turns out
pub data Compared (τ : Timing) (a b : Job) : Bool → Type 0 where
  ahead : MoreUrgent τ a b → Compared τ a b true
  same : a ≡ b → Compared τ a b false
  behind : MoreUrgent τ b a → Compared τ a b false

-- exactly one of the three holds, and the test tells the first from the others
pub compared : (τ : Timing) (a b : Job) → Compared τ a b (more_urgent τ a b)
unfolding more_urgent
compared τ a b =
    elim (test_lex (deadline τ a) (deadline τ b) (lex a.arrival b.arrival (ltb a.task b.task))) as (λ s _. Compared τ a b s) [
      | lex_less h ↦ ahead (earlier h)
      | lex_more h ↦ behind (earlier h)
      | lex_same d ↦
          elim (test_lex a.arrival b.arrival (ltb a.task b.task)) as (λ s _. Compared τ a b s) [
            | lex_less h ↦ ahead (older d h)
            | lex_more h ↦ behind (older (sym d) h)
            | lex_same r ↦
                elim (test_le (suc a.task) b.task) as (λ s _. Compared τ a b s)
                [ le_yes h ↦ ahead (lower d r h) | le_not h ↦ level d r (dec_le a.task b.task) h ]
          ]
    ]
  where
    level : deadline τ a ≡ deadline τ b → a.arrival ≡ b.arrival → Dec (a.task ≤ b.task) → b.task < suc a.task → Compared τ a b false
    level d r (yes k) h = same (let t : a.task ≡ b.task = omega arith in λ i. record { task = t i; arrival = r i })
    level d r (no k) h = behind (lower (sym d) (sym r) (omega arith))

-- no job is more urgent than itself
pub irreflexive : (τ : Timing) (a : Job) → MoreUrgent τ a a → ⊥
irreflexive τ a (earlier h) = omega arith
irreflexive τ a (older d h) = omega arith
irreflexive τ a (lower d r h) = omega arith

-- of three jobs in a row the first is more urgent than the last
pub transitive : {τ : Timing} {a b c : Job} → MoreUrgent τ a b → MoreUrgent τ b c → MoreUrgent τ a c
transitive (earlier h) (earlier k) = earlier (omega arith)
transitive (earlier h) (older e k) = earlier (omega arith)
transitive (earlier h) (lower e s k) = earlier (omega arith)
transitive (older d h) (earlier k) = earlier (omega arith)
transitive (older d h) (older e k) = older (omega arith) (omega arith)
transitive (older d h) (lower e s k) = older (omega arith) (omega arith)
transitive (lower d r h) (earlier k) = earlier (omega arith)
transitive (lower d r h) (older e k) = older (omega arith) (omega arith)
transitive (lower d r h) (lower e s k) = lower (omega arith) (omega arith) (omega arith)

-- no two jobs are each more urgent than the other
pub asymmetric : {τ : Timing} {a b : Job} → MoreUrgent τ a b → MoreUrgent τ b a → ⊥
asymmetric {τ} {a} h k = irreflexive τ a (transitive h k)

-- a job stands behind another only if its deadline is no earlier
pub in_order : {τ : Timing} {a b : Job} → MoreUrgent τ a b → deadline τ a ≤ deadline τ b
in_order (earlier h) = omega arith
in_order (older d h) = omega arith
in_order (lower d r h) = omega arith

-- the test passes where a is more urgent
pub urgent_true : (τ : Timing) (a b : Job) → MoreUrgent τ a b → more_urgent τ a b ≡ true
urgent_true τ a b h =
    elim (compared τ a b) as (λ s _. s ≡ true) [
      | ahead k ↦ refl
      | same e ↦ absurd (irreflexive τ b (subst (λ (x : Job). MoreUrgent τ x b) e h))
      | behind k ↦ absurd (asymmetric h k)
    ]

-- it fails where a is not
pub urgent_false : (τ : Timing) (a b : Job) → (MoreUrgent τ a b → ⊥) → more_urgent τ a b ≡ false
urgent_false τ a b h = elim (compared τ a b) as (λ s _. s ≡ false) [ ahead k ↦ absurd (h k) | same e ↦ refl | behind k ↦ refl ]

-- of two distinct jobs one is more urgent
pub total : (τ : Timing) (a b : Job) → (more_urgent τ a b ≡ true) ⊎ ((more_urgent τ b a ≡ true) ⊎ (a ≡ b))
total τ a b =
    elim (compared τ a b) as (λ s _. (s ≡ true) ⊎ ((more_urgent τ b a ≡ true) ⊎ (a ≡ b)))
    [ ahead k ↦ inl refl | same e ↦ inr (inr e) | behind k ↦ inr (inl (urgent_true τ b a k)) ]
