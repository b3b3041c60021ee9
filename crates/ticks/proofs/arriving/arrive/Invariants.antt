use Rattle.ticks.proofs.arriving.ArriveLaws.{Arriving}
use Rattle.ticks.proofs.arriving.TotalLaws.{Counting}
use Rattle.ticks.proofs.arriving.arrive.Given as goal

abbrev pub invariant-loop-i : goal.invariant-loop-i
invariant-loop-i l =
    Arriving l.keys l.count l.clock l.speed l.initial.block l.block l.i × Counting l.count l.speed l.initial.block l.block l.sum l.i
