-- The level that is chosen: the lowest, at or above a floor, at which what is left of a job needs no more than it is allowed.
-- Assumes nothing.
use Prim.Native.Nat.{ℕ, ◌+◌, ◌-◌, ◌≤◌, ◌<◌, max}
use mathlib.Core.Path.{◌≡◌, sym, ap, ◌∙◌}
use mathlib.Core.Bool.{Bool}
use mathlib.Core.List.{List}
use native.Mathlib.Nat.{le_trans}
use native.Mathlib.Decide.{dec_le}
use native.Mathlib.Omega.{arith}
use borrow.Author.Tests.{leb-true, le-leb}
use lib.Dec.{leb}
use lib.ListN.{length, drop, get_or, length-drop}
use lib.Seq.{get_or-drop}
use Rattle.arith.specs.Choice.{first}
use Rattle.arith.proofs.Searches.{first_le, first_passes}
use Rattle.plan.specs.declared.Rest.{Rest}
use Rattle.plan.specs.Times.{time_of}
use Rattle.plan.specs.Levels.{Rising, speed_of}
use Rattle.plan.proofs.TimeLaws.{time_faster}
use Rattle.plan.proofs.LevelLaws.{speed_rises}
use Rattle.reclaiming.specs.Orders.{lowest_level}

-- a higher level needs no more
pub time_higher :
    (speeds : List ℕ) →
    Rising speeds →
    (rest : Rest) (low high : ℕ) →
    low ≤ high →
    high < length speeds →
    time_of (speed_of speeds high) rest ≤ time_of (speed_of speeds low) rest
time_higher speeds rising rest low high le h =
    time_faster (speed_of speeds low) (speed_of speeds high) rest (rising.positive low (omega arith)) (speed_rises speeds rising low high le h)

module _ (speeds : List ℕ) (floor : ℕ) (rest : Rest) (allowed : ℕ) where
  -- whether a speed is enough, and the level that is chosen
  abbrev enough : ℕ → Bool
  enough speed = leb (time_of speed rest) allowed

  abbrev chosen : ℕ
  chosen = lowest_level speeds floor rest allowed

  -- the speeds from the floor on
  from_floor : (l : ℕ) → floor ≤ l → get_or (drop floor speeds) (l - floor) 0 ≡ speed_of speeds l
  from_floor l low =
      let same : floor + (l - floor) ≡ l = omega arith in
      get_or-drop floor speeds (l - floor) 0 ∙ ap (speed_of speeds) same

  pub lowest_floor : floor ≤ chosen
  lowest_floor = omega arith

  -- it is no higher than any level from the floor on that is enough
  pub lowest_le : (l : ℕ) → floor ≤ l → l < length speeds → time_of (speed_of speeds l) rest ≤ allowed → chosen ≤ l
  lowest_le l low h met =
      omega (
        arith,
        first_le enough (drop floor speeds) (l - floor) 0 (simp length-drop (omega arith))
            (ap enough (from_floor l low) ∙ le-leb (time_of (speed_of speeds l) rest) allowed met),
      )

  -- it is enough, where one is
  pub lowest_meets : floor < length speeds → chosen < length speeds → time_of (speed_of speeds chosen) rest ≤ allowed
  lowest_meets loaded h =
      let k : ℕ = first enough (drop floor speeds) in
      leb-true (time_of (speed_of speeds chosen) rest) allowed
      (sym (ap enough (get_or-drop floor speeds k 0)) ∙ first_passes enough (drop floor speeds) 0 (simp length-drop (omega arith)))

  -- and no lower one from the floor on is
  pub lowest_least : chosen < length speeds → (l : ℕ) → floor ≤ l → l < chosen → allowed < time_of (speed_of speeds l) rest
  lowest_least h l low less =
      elim (dec_le (time_of (speed_of speeds l) rest) allowed) [
        | no more ↦ omega arith
        | yes met ↦ absurd (omega (arith, lowest_le l low (omega arith) met))
      ]

  -- over a rising table it is above any level that is not enough
  pub lowest_above :
      Rising speeds → floor < length speeds → (l : ℕ) → l < length speeds → allowed < time_of (speed_of speeds l) rest → l < chosen
  lowest_above rising loaded l h more =
      elim (dec_le chosen l) [
        | no above ↦ omega arith
        | yes le ↦ absurd (omega (arith, more, lowest_meets loaded (omega arith), time_higher speeds rising rest chosen l le h))
      ]

  -- and no higher than the floor and any level that is enough
  pub lowest_most :
      Rising speeds → floor < length speeds → (high : ℕ) → high < length speeds → time_of (speed_of speeds high) rest ≤ allowed → chosen ≤ max high floor
  lowest_most rising loaded high h met =
      lowest_le (max high floor) (omega arith) (omega arith)
      (le_trans (time_higher speeds rising rest high (max high floor) (omega arith) (omega arith)) met)
