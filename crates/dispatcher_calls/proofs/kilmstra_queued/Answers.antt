use Rattle.std.proofs.Common.{rules}
use Rattle.dispatcher_calls.proofs.kilmstra_queued.Goals as goal

-- neither call is cited by its name, so that a wrong answer is refused here, and no other
pub returns : goal.returns
returns c = search rules
