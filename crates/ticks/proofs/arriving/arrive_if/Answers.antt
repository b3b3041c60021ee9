use Rattle.ticks.proofs.arriving.ArriveLaws.{arrives_not}
use Rattle.ticks.proofs.arriving.arrive_if.Goals as goal

pub returns-clause-block_after : goal.returns-clause-block_after
returns-clause-block_after c =
    arrives_not c.args.keys.now c.args.count c.args.clock c.args.speed (c.requires.by_index.1 c.if-some.false) c.args.block.now
