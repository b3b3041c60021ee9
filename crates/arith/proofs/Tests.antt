-- A test inside a definition, and what it tells: a view for each kind of test, to be taken apart by `elim`, and laws of two tests together.
-- Assumes nothing.
use Prim.Native.Nat.{ℕ, suc, ◌≤◌, ◌<◌}
use mathlib.Core.Path.{◌≡◌, subst, sym, refl}
use mathlib.Core.Bool.{Bool, true, false, not, true≢false}
use native.Mathlib.Omega.{arith}
use lib.Dec.{T, leb, ltb, eqb, leb→le, nleb→lt, eqb→eq, eqb_refl}
use Rattle.arith.specs.Choice.{pick, lex, both}

pub data TestLe (m n : ℕ) : Bool → Type 0 where
  le_yes : m ≤ n → TestLe m n true
  le_not : n < m → TestLe m n false

-- `ltb m n` is `leb (suc m) n`, so this serves both
pub test_le : (m n : ℕ) → TestLe m n (leb m n)
test_le m n = view (leb m n) (leb→le m n) (nleb→lt m n)
  where
    view : (b : Bool) → (T b → m ≤ n) → (T (not b) → n < m) → TestLe m n b
    view true y x = le_yes (y tt)
    view false y x = le_not (x tt)

pub data TestEq (m n : ℕ) : Bool → Type 0 where
  eq_yes : m ≡ n → TestEq m n true
  eq_not : (m ≡ n → ⊥) → TestEq m n false

pub test_eq : (m n : ℕ) → TestEq m n (eqb m n)
test_eq m n = view (eqb m n) (eqb→eq m n) (λ e. subst (λ (k : ℕ). T (eqb m k)) e (eqb_refl m))
  where
    view : (b : Bool) → (T b → m ≡ n) → (m ≡ n → T b) → TestEq m n b
    view true y x = eq_yes (y tt)
    view false y x = eq_not x

-- a test by itself
pub data Tested : Bool → Type 0 where
  passed : Tested true
  failed : Tested false

pub tested : (b : Bool) → Tested b
tested true = passed
tested false = failed

-- tests that pass at the same time are equal
pub same_test : (a b : Bool) → (a ≡ true → b ≡ true) → (b ≡ true → a ≡ true) → a ≡ b
same_test true b f g = sym (f refl)
same_test false true f g = g refl
same_test false false f g = refl

-- both tests of a pair passed
pub both_left : (a b : Bool) → both a b ≡ true → a ≡ true
both_left true b h = refl
both_left false b h = h

pub both_right : (a b : Bool) → both a b ≡ true → b ≡ true
both_right true b h = h
both_right false b h = absurd (subst T (sym h) tt)

pub both_true : {a b : Bool} → a ≡ true → b ≡ true → both a b ≡ true
both_true {a} {b} p q = subst (λ (x : Bool). both x b ≡ true) (sym p) q

-- the second passed, so the first decides
pub both_yes : (a : Bool) → both a true ≡ a
both_yes true = refl
both_yes false = refl

-- the second did not
pub both_false : (a : Bool) → both a false ≡ false
both_false true = refl
both_false false = refl

-- of two pairs of tests, all four
pub both_swap : (a b c d : Bool) → both (both a b) (both c d) ≡ both (both a c) (both b d)
both_swap false b c d = refl
both_swap true true c d = refl
both_swap true false c d = sym (both_false c)

-- a test that counts only where another passes
pub only_if : (a b : Bool) → (a ≡ true → b ≡ true) → pick a b true ≡ true
only_if true b h = h refl
only_if false b h = refl

pub if_so : (a b : Bool) → pick a b true ≡ true → a ≡ true → b ≡ true
if_so a b h e = subst (λ (t : Bool). pick t b true ≡ true) e h

-- neither of two tests passed
pub neither_first : (a b : Bool) → pick a true b ≡ false → a ≡ false
neither_first true b h = h
neither_first false b h = refl

pub neither_second : (a b : Bool) → pick a true b ≡ false → b ≡ false
neither_second true b h = absurd (true≢false h)
neither_second false b h = h

-- the second of two tests passed, so one did
pub either_second : (a : Bool) {b : Bool} → b ≡ true → pick a true b ≡ true
either_second true h = refl
either_second false h = h

-- the three outcomes of an order by a first key
pub data TestLex (m n : ℕ) (rest : Bool) : Bool → Type 0 where
  lex_less : m < n → TestLex m n rest true
  lex_same : m ≡ n → TestLex m n rest rest
  lex_more : n < m → TestLex m n rest false

pub test_lex : (m n : ℕ) (rest : Bool) → TestLex m n rest (lex m n rest)
test_lex m n rest =
    elim (test_le (suc m) n) as (λ s _. TestLex m n rest (pick s true (pick (ltb n m) false rest))) [
      | le_yes h ↦ lex_less h
      | le_not h ↦
          elim (test_le (suc n) m) as (λ s _. TestLex m n rest (pick s false rest))
          [ le_yes k ↦ lex_more k | le_not k ↦ lex_same (omega arith) ]
    ]
