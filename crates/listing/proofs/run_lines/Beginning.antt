-- The lines from the start on: a book is opened at clock 0, and what stands in the buffer is what the listing says.
-- Assumes nothing.
use Prim.Native.Nat.{ℕ}
use mathlib.Core.Path.{◌≡◌, refl, sym, ap, ap₂, ◌∙◌}
use mathlib.Core.List.{List, [], ◌++◌, append_assoc}
use native.Mathlib.Omega.{arith}
use lib.ListN.{length, take, replicate}
use lib.Seq.{take_all}
use Rattle.plan.specs.declared.Task.{Task}
use Rattle.plan.specs.LevelBlocks.{speeds_in}
use Rattle.plan.specs.Blocks.{tasks_in}
use Rattle.reclaiming.specs.declared.Order.TheVariants.{Run, Idle}
use Rattle.reclaiming.specs.Replies.{Reply}
use Rattle.reclaiming.specs.Books.{opened_book}
use Rattle.reclaiming.specs.StateBlock.{state_length}
use Rattle.reclaiming.specs.Calls.{start_reply, start_buffer}
use Rattle.reclaiming.specs.Run.{trace, started_bytes, lines_from}
use Rattle.transcript.specs.Listing.{reply_line, passes_in, odd_line, lines_text, started_lines}
use Rattle.listing.specs.RunLines.{passes_text}
use Rattle.std.specs.declared.result.Result.TheVariants.{Ok, Err}

-- a book is opened at clock 0, whatever the start replied
pub opened_clock : (ts : List Task) (r : Reply) → (opened_book ts r).clock ≡ 0
opened_clock ts (Ok (Run task level hold)) = refl
opened_clock ts (Ok (Idle hold)) = refl
opened_clock ts (Err e) = refl

-- the lines from the start on
pub started_is :
    (levels block passes : List ℕ) {r : Reply} {s : List ℕ} →
    r ≡ start_reply levels block [] state_length →
    s ≡ start_buffer levels block [] (replicate state_length 0) →
    length s ≡ state_length →
    reply_line 0 r ++ passes_text (speeds_in levels) (tasks_in block) (opened_book (tasks_in block) r) s passes ≡ started_lines levels block passes
started_is levels block passes {r} {s} a b size =
    let begun : s ≡ started_bytes levels block [] (replicate state_length 0) = sym (take_all state_length s (omega arith)) ∙ ap (take state_length) b in
    let ts : List Task = tasks_in block in
    let lines : Reply → List ℕ → List ℕ = λ x y. lines_text (lines_from (speeds_in levels) ts (opened_book ts x) (trace y (passes_in passes))) in
    sym (append_assoc (reply_line 0 r) (lines r s) (odd_line passes))
    ∙ ap₂ (λ (x : Reply) (y : List ℕ). reply_line 0 x ++ lines x y ++ odd_line passes) a begun
