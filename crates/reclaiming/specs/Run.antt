-- 01, "The run in demand 3": a list of passes put to the calls, the replies to them, and the lines of a run.
-- Assumes nothing.
use Rattle.std.specs.Prelude.{ℕ, List, [], ◌∷◌, length, take}
use Rattle.plan.specs.declared.Task.{Task}
use Rattle.plan.specs.LevelBlocks.{speeds_in}
use Rattle.plan.specs.Blocks.{tasks_in}
use Rattle.reclaiming.specs.Replies.{Reply}
use Rattle.reclaiming.specs.Passes.{Pass}
use Rattle.reclaiming.specs.Books.{Answered, DispatcherBook, opened_book, booked}
use Rattle.reclaiming.specs.StateBlock.{state_length}
use Rattle.reclaiming.specs.Calls.{start_reply, start_buffer, pass_reply, pass_bytes}

-- demand 3: "each further one the state as the last left it, and nobody else writes it meanwhile"
abbrev pub trace : List ℕ → List Pass → List Answered
trace bytes [] = []
trace bytes (p ∷ ps) =
    record { pass = p; reply = pass_reply bytes p.d p.finished } ∷ trace (pass_bytes bytes p.d p.finished) ps

-- the state's bytes after the list
abbrev pub bytes_after : List ℕ → List Pass → List ℕ
bytes_after bytes [] = bytes
bytes_after bytes (p ∷ ps) = bytes_after (pass_bytes bytes p.d p.finished) ps

-- demand 3: "the first gets the state that starting gave on an accepted plan": the first 221 bytes of the lent buffer
abbrev pub started_bytes : List ℕ → List ℕ → List ℕ → List ℕ → List ℕ
started_bytes levels block pairs buffer = take state_length (start_buffer levels block pairs buffer)

-- 01: "Then one line for the start and one for each accepted pass: clock, then run, task, level, hold; or idle, hold."; "A refused
-- pass prints its line"
pub record Line : Type 0 where
  pub clock : ℕ
  pub reply : Reply

abbrev pub line : ℕ → Reply → Line
line clock r = record { clock = clock; reply = r }

-- the lines of the passes of a run, each with the clock of the dispatcher's book after it
abbrev pub lines_from : List ℕ → List Task → DispatcherBook → List Answered → List Line
lines_from speeds ts b [] = []
lines_from speeds ts b (a ∷ rest) =
    let next : DispatcherBook = booked speeds ts b a.pass a.reply in
    line next.clock a.reply ∷ lines_from speeds ts next rest

-- the lines of a run: one for the start, at clock 0, and one for each pass
abbrev pub run_lines : List ℕ → List ℕ → List ℕ → List ℕ → List Pass → List Line
run_lines levels block pairs buffer passes =
    let first : Reply = start_reply levels block pairs (length buffer) in
    line 0 first
    ∷ lines_from (speeds_in levels) (tasks_in block) (opened_book (tasks_in block) first) (trace (started_bytes levels block pairs buffer) passes)
