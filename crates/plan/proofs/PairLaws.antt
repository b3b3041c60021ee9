-- What is known of a pair once it is good, and of a list of them.
-- Assumes nothing.
use Prim.Native.Nat.{ℕ, suc, ◌/◌, ◌%◌, ◌<◌, ◌≤◌}
use mathlib.Core.Path.{◌≡◌, refl, sym, ap, ◌∙◌}
use mathlib.Core.Bool.{Bool, true}
use mathlib.Core.List.{List, [], ◌∷◌}
use native.Mathlib.Omega.{arith}
use borrow.Author.Tests.{leb-true, eqb-true, eq-eqb}
use lib.Dec.{leb, ltb, eqb}
use lib.ListN.{length}
use Rattle.arith.specs.Choice.{pick, both, every}
use Rattle.arith.proofs.Tests.{both_left, both_right}
use Rattle.plan.specs.declared.Task.{Task}
use Rattle.plan.specs.Pairs.{Pair, pairs_in, period_of, good_pair, pairs_good}

pub record GoodPair (ts : List Task) (p : Pair) : Type 0 where
  pub earlier_below : p.earlier < length ts
  pub later_below : p.later < length ts
  pub multiple : period_of ts p.later % period_of ts p.earlier ≡ 0
  pub lower : period_of ts p.earlier ≡ period_of ts p.later → p.earlier < p.later

pub good_pair_lem : (ts : List Task) (p : Pair) → good_pair ts p ≡ true → GoodPair ts p
good_pair_lem ts p h =
    let first : Bool = ltb p.earlier (length ts) in
    let second : Bool = ltb p.later (length ts) in
    let divides : Bool = eqb (period_of ts p.later % period_of ts p.earlier) 0 in
    let same : Bool = eqb (period_of ts p.earlier) (period_of ts p.later) in
    let below : Bool = ltb p.earlier p.later in
    let exist : both first second ≡ true = both_left (both first second) (both divides (pick same below true)) h in
    let rest : both divides (pick same below true) ≡ true = both_right (both first second) (both divides (pick same below true)) h in
    record {
      earlier_below = leb-true (suc p.earlier) (length ts) (both_left first second exist);
      later_below = leb-true (suc p.later) (length ts) (both_right first second exist);
      multiple = eqb-true (period_of ts p.later % period_of ts p.earlier) 0 (both_left divides (pick same below true) rest);
      lower = λ e.
          leb-true (suc p.earlier) p.later
          (ap (λ (b : Bool). pick b below true) (sym (eq-eqb (period_of ts p.earlier) (period_of ts p.later) e))
          ∙ both_right divides (pick same below true) rest);
    }

-- in a good list each is
pub each_good : (ts : List Task) (pairs : List ℕ) → pairs_good ts pairs ≡ true → every (good_pair ts) (pairs_in pairs) ≡ true
each_good ts pairs h =
    let even : Bool = eqb (length pairs % 2) 0 in
    let good : Bool = every (good_pair ts) (pairs_in pairs) in
    both_right even good (both_right (leb (length pairs) 32) (both even good) h)

-- how many pairs so many bytes are
pub length-pairs_in : (pairs : List ℕ) → length (pairs_in pairs) ≡ length pairs / 2
length-pairs_in [] = refl
length-pairs_in (x ∷ []) = refl
length-pairs_in (x ∷ y ∷ bytes) = let e : length (pairs_in bytes) ≡ length bytes / 2 = length-pairs_in bytes in omega arith

-- and of a good list there are at most 16
pub pairs_few : (ts : List Task) (pairs : List ℕ) → pairs_good ts pairs ≡ true → length (pairs_in pairs) ≤ 16
pairs_few ts pairs h =
    let rest : Bool = both (eqb (length pairs % 2) 0) (every (good_pair ts) (pairs_in pairs)) in
    omega (arith, length-pairs_in pairs, leb-true (length pairs) 32 (both_left (leb (length pairs) 32) rest h))
