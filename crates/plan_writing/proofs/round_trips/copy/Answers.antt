use native.Mathlib.Omega.{arith}
use Rattle.plan.specs.Laws.{Bytes}
use Rattle.plan_writing.proofs.round_trips.RoundTrips.{leaves_unread, leaves_read}
use Rattle.plan_writing.proofs.round_trips.copy.Goals.{After-read-j}
use Rattle.std.proofs.lemmas.Result.{err_from_is_err_and}
use Rattle.plan_writing.proofs.round_trips.copy.Goals as goal

bytes : (c : After-read-j) → Bytes c.args.block.now
bytes c k h = omega (arith, c.type_inv.block k)

pub returns-in_err-j : goal.returns-in_err-j
returns-in_err-j c =
    let p = err_from_is_err_and c.from_residual.result c.from_residual.ensures.1 in
    let all = leaves_unread c.args.levels.now c.args.block.now c.args.buffer.now {n = c.in_err-j.field-0.0.number} c.read-j.ensures c.in_err-j.was in record {
      value = rw (p.1, p.2) all.0;
      buffer_after = all.1;
    }

pub returns : goal.returns
returns c =
    let all = leaves_read c.args.levels.now c.args.block.now c.args.buffer.now (bytes (goal.at.returns c).After-read-j) c.read-j.ensures c.in_ok-j.was (c.write.ensures.value, c.write.ensures.buffer_after) in record {
      value = all.0;
      buffer_after = all.1;
    }
