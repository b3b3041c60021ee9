-- The length by a law: so many zeros are not counted.
use Rattle.bench.proofs.Sizes.{zeros}
use Rattle.bench.proofs.listing_room.Goals as goal

pub returns : goal.returns
returns c = zeros 2000000
