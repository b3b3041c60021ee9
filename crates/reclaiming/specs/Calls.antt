-- 01, "Blocks" and "Questions put to every call": what starting, passing and showing return, and every byte that they leave in a lent
-- block, refused calls included; 02, No. 6: what asking for the total returns.
-- Assumes nothing.
use Rattle.std.specs.Prelude.{ℕ, Bool, List, [], ◌∷◌, ◌++◌, length}
use Rattle.arith.specs.Digits.{digits}
use Rattle.arith.specs.Asking.{first_no}
use Rattle.plan.specs.LevelBlocks.{speeds_in}
use Rattle.plan.specs.Blocks.{tasks_in}
use Rattle.plan.specs.Answers.{written_by, stored_by}
use Rattle.schedule.specs.PlainSchedule.{Pending, queue_of}
use Rattle.reclaiming.specs.Allotments.{timing}
use Rattle.reclaiming.specs.Orders.{hold_of, order_with}
use Rattle.reclaiming.specs.Replies.{Reply, replied_by}
use Rattle.reclaiming.specs.StateBlock.{State, remaining_of, plan_in, encode, total_in, decode}
use Rattle.reclaiming.specs.States.{view_of, start_state, passed_state, passed_hold}
use Rattle.reclaiming.specs.Questions.{starting, passing, showing, queueing}
use Rattle.plan.specs.Counted.{Counted, counted_by}

-- starting
abbrev pub start_number : List ℕ → List ℕ → List ℕ → ℕ → ℕ
start_number levels block pairs room = first_no (starting levels block pairs room)

abbrev pub start_order : List ℕ → State → Reply
start_order speeds s = order_with (view_of s) (hold_of speeds (timing speeds (plan_in s)) (view_of s))

abbrev pub start_reply : List ℕ → List ℕ → List ℕ → ℕ → Reply
start_reply levels block pairs room =
    replied_by (start_number levels block pairs room) (start_order (speeds_in levels) (start_state (speeds_in levels) (tasks_in block)))

abbrev pub start_buffer : List ℕ → List ℕ → List ℕ → List ℕ → List ℕ
start_buffer levels block pairs buffer =
    stored_by (start_number levels block pairs (length buffer)) (encode (start_state (speeds_in levels) (tasks_in block))) buffer

-- passing
abbrev pub pass_number : List ℕ → ℕ → Bool → ℕ
pass_number bytes d finished = first_no (passing bytes d finished)

abbrev pub pass_order : List ℕ → State → ℕ → Bool → Reply
pass_order speeds s d finished =
    order_with (view_of (passed_state speeds (timing speeds (plan_in s)) s d finished))
    (passed_hold speeds (timing speeds (plan_in s)) s d finished)

-- 02, No. 1: orders "are from now on those of the loaded speeds": a state has its own
abbrev pub pass_reply : List ℕ → ℕ → Bool → Reply
pass_reply bytes d finished =
    replied_by (pass_number bytes d finished) (pass_order (decode bytes).speeds (decode bytes) d finished)

abbrev pub pass_bytes : List ℕ → ℕ → Bool → List ℕ
pass_bytes bytes d finished =
    let speeds : List ℕ = (decode bytes).speeds in
    stored_by (pass_number bytes d finished)
    (encode (passed_state speeds (timing speeds (plan_in (decode bytes))) (decode bytes) d finished))
    bytes

-- 01: "The queue is shown as 3 bytes an entry, task then plain ticks left, most urgent first, entries with plain ticks left only."
abbrev pub queue_bytes : List Pending → List ℕ
queue_bytes [] = []
queue_bytes (e ∷ q) = e.job.task ∷ digits 256 2 e.remaining ++ queue_bytes q

abbrev pub ready_queue : List ℕ → State → List Pending
ready_queue speeds s = queue_of (timing speeds (plan_in s)) s.clock (remaining_of s) (length s.entries)

abbrev pub shown_bytes : List ℕ → List ℕ
shown_bytes bytes = queue_bytes (ready_queue (decode bytes).speeds (decode bytes))

abbrev pub show_number : List ℕ → ℕ → ℕ
show_number bytes room = first_no (showing bytes (length (shown_bytes bytes)) room)

abbrev pub show_reply : List ℕ → ℕ → Counted
show_reply bytes room = written_by (show_number bytes room) (shown_bytes bytes)

abbrev pub show_buffer : List ℕ → List ℕ → List ℕ
show_buffer bytes buffer = stored_by (show_number bytes (length buffer)) (shown_bytes bytes) buffer

-- 02, No. 6: the total is told "without going through the entries", of a sound state or not
abbrev pub queued_reply : List ℕ → Counted
queued_reply bytes = counted_by (first_no (queueing bytes)) (total_in bytes)
