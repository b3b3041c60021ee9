-- Laws of questions and of the first no.
-- Assumes nothing.
use Prim.Native.Nat.{ℕ, ◌≤◌, ◌<◌}
use mathlib.Core.Path.{◌≡◌, refl, sym, ap, ◌∙◌}
use mathlib.Core.Bool.{Bool, true, false}
use mathlib.Core.List.{List, [], ◌∷◌, ◌++◌}
use native.Mathlib.Omega.{arith}
use borrow.Author.Tests.{leb-true, le-leb, lt-leb}
use lib.Dec.{leb, eqb}
use Rattle.arith.specs.Choice.{pick, every}
use Rattle.arith.specs.Asking.{within, Question, first_no}
use Rattle.arith.proofs.Tests.{both_left, both_right, both_true, both_false}

-- a value from low to high
pub within_low : (low high x : ℕ) → within low high x ≡ true → low ≤ x
within_low low high x h = leb-true low x (both_left (leb low x) (leb x high) h)

pub within_high : (low high x : ℕ) → within low high x ≡ true → x ≤ high
within_high low high x h = leb-true x high (both_right (leb low x) (leb x high) h)

pub within_true : (low high x : ℕ) → low ≤ x → x ≤ high → within low high x ≡ true
within_true low high x l h = both_true (le-leb low x l) (le-leb x high h)

-- a question answered no decides; one answered yes leaves it to the rest
pub ask_no : (n : ℕ) {b : Bool} (rest : ℕ) → b ≡ false → pick b rest n ≡ n
ask_no n rest h = ap (λ (b : Bool). pick b rest n) h

pub ask_yes : (n : ℕ) {b : Bool} {rest m : ℕ} → b ≡ true → rest ≡ m → pick b rest n ≡ m
ask_yes n {b} {rest} h e = ap (λ (t : Bool). pick t rest n) h ∙ e

-- a value out of its range
pub within_under : (low high x : ℕ) → x < low → within low high x ≡ false
within_under low high x h = simp (lt-leb low x h)

pub within_over : (low high x : ℕ) → high < x → within low high x ≡ false
within_over low high x h = simp (lt-leb x high h, both_false)

-- questions put after others: a no among those decides, and where there is none these do
pub no_before : (qs rest : List Question) (n : ℕ) → 0 < n → first_no qs ≡ n → first_no (qs ++ rest) ≡ n
no_before [] rest n p h = absurd (omega arith)
no_before (q ∷ qs) rest n p h = step q.reply (first_no qs) (first_no (qs ++ rest)) q.number (no_before qs rest n p) h
  where
    step : (b : Bool) (x y m : ℕ) → (x ≡ n → y ≡ n) → pick b x m ≡ n → pick b y m ≡ n
    step true x y m f e = f e
    step false x y m f e = e

abbrev pub numbered : Question → Bool
numbered q = leb 1 q.number

pub yes_before :
    (qs rest : List Question) → every numbered qs ≡ true → first_no qs ≡ 0 → first_no (qs ++ rest) ≡ first_no rest
yes_before [] rest p h = refl
yes_before (q ∷ qs) rest p h =
    step q.reply (first_no qs) (first_no (qs ++ rest)) q.number
    (leb-true 1 q.number (both_left (numbered q) (every numbered qs) p))
    (yes_before qs rest (both_right (numbered q) (every numbered qs) p))
    h
  where
    step : (b : Bool) (x y m : ℕ) → 1 ≤ m → (x ≡ 0 → y ≡ first_no rest) → pick b x m ≡ 0 → pick b y m ≡ first_no rest
    step true x y m l f e = f e
    step false x y m l f e = absurd (omega arith)

pub yes_of : (qs rest : List Question) → first_no (qs ++ rest) ≡ 0 → first_no qs ≡ 0
yes_of [] rest h = refl
yes_of (q ∷ qs) rest h = step q.reply (first_no (qs ++ rest)) (first_no qs) q.number (yes_of qs rest) h
  where
    step : (b : Bool) (x y m : ℕ) → (x ≡ 0 → y ≡ 0) → pick b x m ≡ 0 → pick b y m ≡ 0
    step true x y m f e = f e
    step false x y m f e = e

pub yes_after : (qs rest : List Question) → every numbered qs ≡ true → first_no (qs ++ rest) ≡ 0 → first_no rest ≡ 0
yes_after qs rest p h = sym (yes_before qs rest p (yes_of qs rest h)) ∙ h

-- each question is answered yes
abbrev pub Yes : List Question → Type 0
Yes [] = Unit {0}
Yes (q ∷ qs) = (q.reply ≡ true) × Yes qs

-- that is so exactly if there is no first no
pub all_yes : (qs : List Question) → every numbered qs ≡ true → first_no qs ≡ 0 → Yes qs
all_yes [] p h = tt
all_yes (q ∷ qs) p h =
    step q.reply refl (leb-true 1 q.number (both_left (numbered q) (every numbered qs) p))
    (all_yes qs (both_right (numbered q) (every numbered qs) p))
    h
  where
    step : (b : Bool) → q.reply ≡ b → 1 ≤ q.number → (first_no qs ≡ 0 → Yes qs) → pick b (first_no qs) q.number ≡ 0 → Yes (q ∷ qs)
    step true e l f k = (e, f k)
    step false e l f k = absurd (omega arith)

pub yes_all : (qs : List Question) → Yes qs → first_no qs ≡ 0
yes_all [] a = refl
yes_all (q ∷ qs) a = ask_yes q.number a.0 (yes_all qs a.1)

-- the reply to the question of a number, wherever it stands: yes, where there is no first no
abbrev pub reply_to : ℕ → List Question → Bool
reply_to n [] = true
reply_to n (q ∷ qs) = pick (eqb q.number n) q.reply (reply_to n qs)

pub replied : (qs : List Question) → every numbered qs ≡ true → first_no qs ≡ 0 → (n : ℕ) → reply_to n qs ≡ true
replied qs p h n = find qs (all_yes qs p h)
  where
    step : (b c d : Bool) → c ≡ true → d ≡ true → pick b c d ≡ true
    step true c d y z = y
    step false c d y z = z

    find : (qs : List Question) → Yes qs → reply_to n qs ≡ true
    find [] a = refl
    find (q ∷ qs) a = step (eqb q.number n) q.reply (reply_to n qs) a.0 (find qs a.1)

-- where each question's number is at most some bound, so is the first no
module _ (most : ℕ) where
  abbrev pub small : Question → Bool
  small q = leb q.number most

  pub first_no_most : (qs : List Question) → every small qs ≡ true → first_no qs ≤ most
  first_no_most [] h = omega arith
  first_no_most (q ∷ qs) h =
      step q.reply (first_no qs) q.number
      (first_no_most qs (both_right (small q) (every small qs) h))
      (leb-true q.number most (both_left (small q) (every small qs) h))
    where
      step : (b : Bool) (x m : ℕ) → x ≤ most → m ≤ most → pick b x m ≤ most
      step true x m f g = f
      step false x m f g = g
