-- 01, "Questions put to every call": a question, its number, and the first no; an answer.
-- Assumes nothing.
use Rattle.std.specs.Prelude.{ℕ, Bool, true, false, List, [], ◌∷◌, leb}
use Rattle.arith.specs.Choice.{pick, both}

-- a question's reply, and the number that is the answer when the reply is no
pub record Question : Type 0 where
  pub number : ℕ
  pub reply : Bool

abbrev pub ask : ℕ → Bool → Question
ask n b = record { number = n; reply = b }

-- 01: "The number is the answer when the reply is no; the first no decides." 0 where there is no no.
abbrev pub first_no : List Question → ℕ
first_no [] = 0
first_no (q ∷ qs) = pick q.reply (first_no qs) q.number

-- 01: what a call answers is its values or, "when the reply is no", a number, which "is all that is returned"
pub data Answer : Type 0 where
  values : List ℕ → Answer
  refusal : ℕ → Answer

-- the call was accepted; a refusal is none, whatever its number
abbrev pub is_accepted : Answer → Bool
is_accepted (values vs) = true
is_accepted (refusal n) = false

-- the number of a refusal, 0 where there is none
abbrev pub number_of : Answer → ℕ
number_of (values vs) = 0
number_of (refusal n) = n

-- a value from low to high
abbrev pub within : ℕ → ℕ → ℕ → Bool
within low high x = both (leb low x) (leb x high)
