use mathlib.Core.Path.{refl}
use native.Mathlib.Omega.{arith}
use Rattle.levels.specs.Code.{loaded}
use Rattle.soundness.proofs.SoundLaws.{Running, gap_alone}
use Rattle.soundness.proofs.keeps_up.Goals as goal

pub returns : goal.returns
returns c =
    -- the order that stands runs a job
    let runs : Running (loaded c.args.table.now.speeds c.args.table.now.levels) c.args.block.now c.args.count c.args.next c.standing-c.result = record {
      same = c.requires.holds.1;
      arrival = c.requires.next_value;
      choice = c.standing-c.ensures;
      some = c.requires.runnable.1 c.if-ahead.false;
    } in
    gap_alone runs c.if-ahead.false (omega arith) refl c.is_lone.ensures
