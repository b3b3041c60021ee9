use Prim.Native.Nat.{ℕ, ◌*◌, ◌<◌}
use mathlib.Core.Path.{◌≡◌, refl, ap, ◌∙◌}
use mathlib.Core.List.{◌++◌}
use native.Mathlib.Omega.{arith}
use borrow.Author.Rules.{rules}
use lib.ListN.{length, get_or, take, drop, length-set, length-take}
use lib.Seq.{get_or-take, length-take-le}
use Rattle.reclaiming.specs.StateBlock.{places}
use Rattle.state.proofs.BlockLaws.{remaining_in}
use Rattle.showing.specs.Ready.{tasks_bytes}
use Rattle.showing.proofs.ShowLaws.{shown_more, shown_all}
use Rattle.showing.proofs.put_queue.Goals.{In-loop-k, Start}
use Rattle.showing.proofs.put_queue.Goals as goal

-- the queue is as long as it says
long : (c : Start) → length (take c.args.q.len c.args.q.tasks) ≡ c.args.q.len
long c =
    let size : length c.args.q.tasks ≡ places = search rules in
    length-take-le c.args.q.len c.args.q.tasks (omega (arith, c.requires.state_len.1))

below : (c : In-loop-k) → get_or (take c.args.q.len c.args.q.tasks) c.loop-k.k 0 < places
below c =
    let q = c.args.q in
    let near : c.loop-k.k < q.len = omega (arith, length-take q.len q.tasks) in
    omega (arith, get_or-take q.len q.tasks c.loop-k.k 0 near, c.requires.by_index c.loop-k.k near)

pub loop-k-init : goal.loop-k-init
loop-k-init c =
    record { room = omega (arith, long (goal.at.loop-k-init c).Start, c.requires.state_len.2); below = omega arith; kept = refl; bytes = refl }

pub overflow_cast-task : goal.overflow_cast-task
overflow_cast-task c = omega (arith, below (goal.at.overflow_cast-task c).In-loop-k)

pub remaining_at-left-requires : goal.remaining_at-left-requires
remaining_at-left-requires c = (below (goal.at.remaining_at-left-requires c).In-loop-k, c.requires.state_len.0)

pub put_number-requires : goal.put_number-requires
put_number-requires c = simp length-set (omega arith)

pub loop-k-preserved : goal.loop-k-preserved
loop-k-preserved c =
    shown_more c.loop-k.invariant c.loop-k-test.true c.remaining_at-left.ensures.0 c.put_number.ensures

pub shape_of-buffer : goal.shape_of-buffer
shape_of-buffer c = c.loop-k.invariant.kept

pub returns : goal.returns
returns c =
    shown_all c.loop-k.invariant c.loop-k-test.false
    ∙ ap (λ (n : ℕ). tasks_bytes (remaining_in c.args.state.now) (take c.args.q.len c.args.q.tasks) ++ drop (3 * n) c.args.buffer.now) (long (goal.at.returns c).Start)
