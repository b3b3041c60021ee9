-- 01, "Questions put to every call": what a call answers that answers one count, of levels, bytes, pairs or ticks, or the damping.
-- Assumes nothing.
use Rattle.std.specs.Prelude.{ℕ, zero, suc, ◌*◌, [], ◌∷◌}
use Rattle.std.specs.declared.result.Result.{Result}
use Rattle.std.specs.declared.result.Result.TheVariants.{Ok, Err}
use Rattle.arith.specs.Asking.{Answer, values, refusal}
use Rattle.plan.specs.declared.Refused.{Refused}

-- the count, or a refusal's number
abbrev pub Counted : Type 0
Counted = Result ℕ Refused

-- a refusal: its number "is all that is returned"
abbrev pub refused : {A : Type 0} → ℕ → Result A Refused
refused n = Err (record { number = n })

-- what is answered by the number of the first no, 0 where there is none
abbrev pub counted_by : ℕ → ℕ → Counted
counted_by zero count = Ok count
counted_by (suc n) count = refused (suc n)

-- 01's number and values of each case
abbrev pub counted_answer : Counted → Answer
counted_answer (Ok count) = values (count ∷ [])
counted_answer (Err e) = refusal e.number

-- for C, in one number: a refusal is its number; else the count times 256
abbrev pub counted_number : Counted → ℕ
counted_number (Ok count) = 256 * count
counted_number (Err e) = e.number
