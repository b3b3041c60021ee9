-- Text stored into a list of bytes.
-- Assumes nothing.
use Rattle.std.specs.Prelude.{ℕ, ◌+◌, ◌≤◌, ◌≡◌, List, length}
use Rattle.std.proofs.lemmas.List.Edits.{sets}

-- a text of at most so many bytes, stored at a place: the place past it, and what the list is then
pub record Put (most : ℕ) (before : List ℕ) (at : ℕ) (text : List ℕ) (r : ℕ) (after : List ℕ) : Type 0 where
  pub place : r ≡ at + length text
  pub bytes : after ≡ sets before at text
  pub near : r ≤ at + most
