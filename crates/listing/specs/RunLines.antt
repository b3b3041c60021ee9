-- What the code of the listing says of the passes alone, before their lines stand below the start's.
-- Assumes nothing.
use Rattle.std.specs.Prelude.{ℕ, List, ◌++◌}
use Rattle.plan.specs.declared.Task.{Task}
use Rattle.reclaiming.specs.Books.{DispatcherBook}
use Rattle.reclaiming.specs.Run.{trace, lines_from}
use Rattle.transcript.specs.Listing.{passes_in, odd_line, lines_text}

-- the lines of an input's passes on a state, with a book that stands as the dispatcher's does before them; then the odd byte's
abbrev pub passes_text : List ℕ → List Task → DispatcherBook → List ℕ → List ℕ → List ℕ
passes_text speeds ts b state passes = lines_text (lines_from speeds ts b (trace state (passes_in passes))) ++ odd_line passes
