-- 01, "Orders and passes" and "Questions put to every call": a reply is an order or a refusal's number.
-- Assumes nothing.
use Rattle.std.specs.Prelude.{ℕ, zero, suc, Bool, [], ◌∷◌}
use Rattle.std.specs.declared.result.Result.{Result}
use Rattle.std.specs.declared.result.Result.TheVariants.{Ok, Err}
use Rattle.arith.specs.Asking.{Answer, values, refusal, is_accepted}
use Rattle.plan.specs.declared.Refused.{Refused}
use Rattle.plan.specs.Counted.{refused}
use Rattle.reclaiming.specs.declared.Order.{Order}
use Rattle.reclaiming.specs.declared.Order.TheVariants.{Run, Idle}

-- 01: "An order is either to run a task or to stay idle."
abbrev pub Reply : Type 0
Reply = Result Order Refused

abbrev pub run_task : ℕ → ℕ → ℕ → Reply
run_task task level hold = Ok (Run task level hold)

abbrev pub stay_idle : ℕ → Reply
stay_idle hold = Ok (Idle hold)

-- 01: "starting and passing [return] the order"; a refusal's number "is all that is returned"
abbrev pub replied_by : ℕ → Reply → Reply
replied_by zero order = order
replied_by (suc n) order = refused (suc n)

-- 01's number and values of each case: "A run order names the most urgent open job, a level and a hold"; an idle one has a hold
abbrev pub reply_answer : Reply → Answer
reply_answer (Ok (Run task level hold)) = values (task ∷ level ∷ hold ∷ [])
reply_answer (Ok (Idle hold)) = values (hold ∷ [])
reply_answer (Err e) = refusal e.number

-- 01: "An accepted pass is one answered with an order."
abbrev pub is_order : Reply → Bool
is_order r = is_accepted (reply_answer r)
