-- The length of an array of zeros, by a law: a long one is not counted.
-- Assumes nothing.
use Prim.Native.Nat.{ℕ}
use mathlib.Core.Path.{◌≡◌, sym}
use lib.ListN.{length, replicate, length-replicate}

pub zeros : (n : ℕ) → n ≡ length {0} {A = ℕ} (replicate n 0)
zeros n = sym (length-replicate n 0)
