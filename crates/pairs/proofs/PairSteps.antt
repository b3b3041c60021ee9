-- The list of pairs as the code goes through it: what each test tells of a pair, and the pairs from a place on.
-- Assumes nothing.
use Prim.Native.Nat.{ℕ, zero, suc, ◌*◌, ◌/◌, ◌%◌, ◌<◌, ◌≤◌}
use mathlib.Core.Path.{◌≡◌, refl, ap, ◌∙◌}
use mathlib.Core.Bool.{Bool, true, false}
use mathlib.Core.List.{List, [], ◌∷◌, map}
use native.Mathlib.Omega.{arith}
use borrow.Author.Tests.{le-leb, lt-leb, eq-eqb, ne_eqb}
use lib.Dec.{ltb}
use lib.ListN.{length, get_or, drop}
use Rattle.std.specs.Simd.{first_chunks}
use Rattle.arith.specs.Choice.{every}
use Rattle.plan.specs.declared.Task.{Task}
use Rattle.plan.specs.declared.Plan.{Plan}
use Rattle.plan.specs.Blocks.{tasks_of}
use Rattle.plan.specs.Pairs.{Pair, pairs_in, periods_good, good_pair, pairs_good}

-- what the periods tell
module _ (p : Pair) (first second : ℕ) where
  pub no_multiple : (second % first ≡ 0 → ⊥) → false ≡ periods_good p first second
  no_multiple h = simp (ne_eqb (second % first) 0 h)

  pub same_periods : second % first ≡ 0 → first ≡ second → ltb p.earlier p.later ≡ periods_good p first second
  same_periods z e = simp (eq-eqb (second % first) 0 z, eq-eqb first second e)

  pub other_periods : second % first ≡ 0 → (first ≡ second → ⊥) → true ≡ periods_good p first second
  other_periods z e = simp (eq-eqb (second % first) 0 z, ne_eqb first second e)

-- two bytes as a pair, and a list of them
abbrev pub pair_of : List ℕ → Pair
pair_of bytes = record { earlier = get_or bytes 0 0; later = get_or bytes 1 0 }

pub pairs_chunked : (n : ℕ) (pairs : List ℕ) → length pairs ≡ n * 2 → map pair_of (first_chunks 2 n pairs) ≡ pairs_in pairs
pairs_chunked zero [] e = refl
pairs_chunked zero (x ∷ pairs) e = absurd (omega arith)
pairs_chunked (suc n) [] e = absurd (omega arith)
pairs_chunked (suc n) (x ∷ []) e = absurd (omega arith)
pairs_chunked (suc n) (x ∷ y ∷ pairs) e = ap (λ (l : List Pair). pair_of (x ∷ y ∷ []) ∷ l) (pairs_chunked n pairs (omega arith))

-- the loop that tests them: the first i pairs are good
pub record Looked (p : Plan) (whole : List (List ℕ)) (pairs : List ℕ) (i : ℕ) : Type 0 where
  pub within : i ≤ length whole
  pub rest : every (good_pair (tasks_of p)) (map pair_of (drop i whole)) ≡ every (good_pair (tasks_of p)) (pairs_in pairs)

pub looked_none :
    {p : Plan} {whole : List (List ℕ)} {pairs : List ℕ} →
    length pairs % 2 ≡ 0 →
    whole ≡ first_chunks 2 (length pairs / 2) pairs →
    Looked p whole pairs 0
looked_none {p} {whole} {pairs} even e =
    record {
      within = omega arith;
      rest =
          ap (λ (l : List (List ℕ)). every (good_pair (tasks_of p)) (map pair_of l)) e
          ∙ ap (every (good_pair (tasks_of p))) (pairs_chunked (length pairs / 2) pairs (omega arith));
    }

-- the list as a whole
module _ (ts : List Task) (pairs : List ℕ) where
  pub too_long : 32 < length pairs → false ≡ pairs_good ts pairs
  too_long h = simp (lt-leb (length pairs) 32 h)

  pub odd_byte : length pairs ≤ 32 → (length pairs % 2 ≡ 0 → ⊥) → false ≡ pairs_good ts pairs
  odd_byte h o = simp (le-leb (length pairs) 32 h, ne_eqb (length pairs % 2) 0 o)

  pub by_each : {b : Bool} → length pairs ≤ 32 → length pairs % 2 ≡ 0 → b ≡ every (good_pair ts) (pairs_in pairs) → b ≡ pairs_good ts pairs
  by_each h e is = is ∙ simp (le-leb (length pairs) 32 h, eq-eqb (length pairs % 2) 0 e)
