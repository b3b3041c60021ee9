use Prim.Native.Nat.{◌*◌, ◌≤◌}
use mathlib.Core.Path.{◌≡◌}
use lib.ListN.{take}
use Rattle.std.specs.List.{sum}
use Rattle.state.proofs.layout.LayoutLaws.{places_from}
use Rattle.state.proofs.layout.zero_from.Given as goal

abbrev pub invariant-loop-byte : goal.invariant-loop-byte
invariant-loop-byte l = (l.sum ≡ sum (take l.byte-index (places_from l.block l.at))) × (l.sum ≤ 255 * l.byte-index)
