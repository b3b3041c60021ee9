-- What the code asks of a pass: of the clock, the order that stands and the ticks to the next arrival.
-- Assumes nothing.
use Rattle.std.specs.Prelude.{ℕ, zero, suc, ◌+◌, Bool, true, not, List, [], ◌∷◌, ◌++◌, leb, ltb, eqb}
use Rattle.std.specs.declared.result.Result.{Result}
use Rattle.std.specs.declared.result.Result.TheVariants.{Ok}
use Rattle.arith.specs.Choice.{pick}
use Rattle.arith.specs.Asking.{Question, ask}
use Rattle.plan.specs.declared.Refused.{Refused}
use Rattle.plan.specs.Counted.{refused}
use Rattle.reclaiming.specs.Passes.{largest_clock}
use Rattle.orders.specs.declared.Choice.{Choice}

-- whether an order runs a job
abbrev pub runs : Choice → Bool
runs c = not (eqb c.task 255)

-- the questions 13 and 14
abbrev pub finish_questions : Choice → ℕ → Bool → List Question
finish_questions c d finished =
    ask 13 (pick finished (runs c) true)
    ∷ ask 14 (pick (runs c) (pick finished (leb d c.time) (ltb d c.time)) true)
    ∷ []

-- the questions 11 to 15
abbrev pub time_questions : ℕ → Choice → ℕ → ℕ → Bool → List Question
time_questions clock c next d finished =
    ask 11 (leb 1 d) ∷ ask 12 (leb d next) ∷ (finish_questions c d finished ++ (ask 15 (leb (clock + d) largest_clock) ∷ []))

-- what is answered by the number of the first no, 0 where there is none
abbrev pub asked_by : ℕ → Result (Unit {0}) Refused
asked_by zero = Ok tt
asked_by (suc n) = refused (suc n)
