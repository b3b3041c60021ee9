-- What each step and each way out of testing the order of a state block says of whether it is sound.
-- Assumes nothing.
use Prim.Native.Nat.{ℕ, ◌<◌}
use mathlib.Core.Path.{◌≡◌, refl, sym, ap, ap₂, ◌∙◌}
use mathlib.Core.Bool.{Bool, true, false}
use mathlib.Core.List.{List}
use borrow.Author.Tests.{eq-eqb, ne_eqb}
use lib.Dec.{leb, eqb}
use lib.ListN.{get_or}
use Rattle.arith.specs.Choice.{both}
use Rattle.plan.specs.declared.Rest.{Rest}
use Rattle.plan.specs.Times.{time_of}
use Rattle.plan.specs.Levels.{speed_of}
use Rattle.reclaiming.specs.Orders.{allowance, running_time}
use Rattle.reclaiming.specs.StateBlock.{floor_of, decode}
use Rattle.reclaiming.specs.States.{view_of}
use Rattle.reclaiming.specs.Questions.{level_sound, order_sound}
use Rattle.state.specs.Code.{timing_in}
use Rattle.urgency.specs.Code.{no_key}
use Rattle.soundness.specs.SoundOrder.{order_in}
use Rattle.levels.specs.Code.{loaded, Table}
use Rattle.levels.proofs.Tables.{speed_is}
use Rattle.urgency.proofs.HeadLaws.{Looked, none_open, Told, first_open}
use Rattle.orders.proofs.lone.LoneLaws.{Read, read_rest, read_allowed}

-- no job is open
module _ {speeds b l : List ℕ} {count best : ℕ} (k : Looked speeds b l count best) (highest : ℕ) (none : best ≡ no_key) where
  idle_sound : order_in speeds b highest ≡ both (eqb (decode b).task 255) (eqb (decode b).level 0)
  idle_sound = ap (order_sound speeds (timing_in speeds b) highest (view_of (decode b))) (none_open k none)

  pub not_idle : ((decode b).task ≡ 255 → ⊥) → false ≡ order_in speeds b highest
  not_idle n = sym (idle_sound ∙ ap (λ (t : Bool). both t (eqb (decode b).level 0)) (ne_eqb (decode b).task 255 n))

  pub idle_level : (decode b).task ≡ 255 → eqb (decode b).level 0 ≡ order_in speeds b highest
  idle_level e = sym (idle_sound ∙ ap (λ (t : Bool). both t (eqb (decode b).level 0)) (eq-eqb (decode b).task 255 e))

-- the level that the order names is sound, and meets the allowance
abbrev pub level_in : List ℕ → ℕ → Bool
level_in b highest = level_sound highest (floor_of (decode b) (decode b).task) (decode b).level

abbrev meets_in : List ℕ → List ℕ → Bool
meets_in speeds b = leb (running_time speeds (view_of (decode b))) (allowance (timing_in speeds b) (view_of (decode b)) (decode b).task)

-- task i's job is the most urgent open one
module _ {speeds b l : List ℕ} {count best i : ℕ} (k : Told speeds b l count best i) (highest : ℕ) where
  run_sound : order_in speeds b highest ≡ both (eqb (decode b).task i) (both (level_in b highest) (meets_in speeds b))
  run_sound =
      ap (order_sound speeds (timing_in speeds b) highest (view_of (decode b))) (first_open k).queue
      ∙ ap (λ (n : ℕ). both (eqb (decode b).task n) (both (level_in b highest) (meets_in speeds b))) (first_open k).task

  pub other_task : ((decode b).task ≡ i → ⊥) → false ≡ order_in speeds b highest
  other_task n =
      sym (run_sound ∙ ap (λ (t : Bool). both t (both (level_in b highest) (meets_in speeds b))) (ne_eqb (decode b).task i n))

-- it is the order's
module _ {speeds b l : List ℕ} {count best : ℕ} (k : Told speeds b l count best (decode b).task) (highest : ℕ) where
  level_decides : order_in speeds b highest ≡ both (level_in b highest) (meets_in speeds b)
  level_decides =
      run_sound k highest
      ∙ ap (λ (t : Bool). both t (both (level_in b highest) (meets_in speeds b))) (eq-eqb (decode b).task (decode b).task refl)

  pub level_unsound : level_in b highest ≡ false → false ≡ order_in speeds b highest
  level_unsound e = sym (level_decides ∙ ap (λ (t : Bool). both t (meets_in speeds b)) e)

-- at a sound level, whose speed tells whether the allowance is enough
pub record Weighed (held : List ℕ) (levels : ℕ) (b l : List ℕ) (count best highest : ℕ) (rest : Rest) (next allowed : ℕ) (found : Bool) : Type 0 where
  pub table : Table held levels
  pub read : Read (loaded held levels) b l count best (decode b).task rest next allowed
  pub low : (decode b).level < levels
  pub sound : level_in b highest ≡ true
  pub found_is : found ≡ leb (time_of (get_or held (decode b).level 0) rest) allowed

module _ {held : List ℕ} {levels : ℕ} {b l : List ℕ} {count best highest : ℕ} {rest : Rest} {next allowed : ℕ} {found : Bool}
    (k : Weighed held levels b l count best highest rest next allowed found) where
  abbrev table_speeds : List ℕ
  table_speeds = loaded held levels

  pub level_meets : found ≡ order_in (loaded held levels) b highest
  level_meets =
      k.found_is
      ∙ ap (λ (x : ℕ). leb (time_of x rest) allowed) (speed_is k.table (decode b).level k.low)
      ∙ ap₂ (λ (x : Rest) (a : ℕ). leb (time_of (speed_of table_speeds (decode b).level) x) a) (read_rest k.read) (read_allowed k.read)
      ∙ sym (level_decides k.read.told highest ∙ ap (λ (t : Bool). both t (meets_in table_speeds b)) k.sound)
