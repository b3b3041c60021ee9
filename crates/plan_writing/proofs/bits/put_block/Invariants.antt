use Rattle.plan.specs.Blocks.{tasks_of, plan_block}
use Rattle.plan_writing.proofs.bits.PutLaws.{Stored}
use Rattle.plan_writing.proofs.bits.put_block.Given as goal

abbrev pub invariant-loop-j : goal.invariant-loop-j
invariant-loop-j l = Stored (plan_block (tasks_of l.p)) l.initial.buffer l.buffer l.j
