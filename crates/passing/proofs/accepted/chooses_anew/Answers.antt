use Rattle.levels.specs.Code.{loaded}
use Rattle.passing.proofs.accepted.StepLaws.{Reaching, anew_finished, anew_arrives}
use Rattle.passing.proofs.accepted.chooses_anew.Goals.{Start}
use Rattle.passing.proofs.accepted.chooses_anew.Goals as goal

reaching : (c : Start) → Reaching (loaded c.args.table.now.speeds c.args.table.now.levels) c.args.block.now c.args.next c.args.d
reaching c = record { rising = c.args.table.now.known.rising; ok = c.requires.sound.0; some = c.requires.sound.1; within = c.requires.sound.2; arrival = c.requires.next_value }

pub returns-then-finished : goal.returns-then-finished
returns-then-finished c = anew_finished (reaching (goal.at.returns-then-finished c).Start) c.if-finished.true

pub returns : goal.returns
returns c = anew_arrives (reaching (goal.at.returns c).Start) c.if-finished.false
