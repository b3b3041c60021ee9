use Rattle.listing.proofs.cutting.Cuts.{edition_two, edition_else}
use Rattle.listing.proofs.cutting.cut_edition.Goals as goal

pub returns-then-edition-eq2 : goal.returns-then-edition-eq2
returns-then-edition-eq2 c = edition_two c.args.edition c.if-edition-eq2.true

pub returns : goal.returns
returns c = edition_else c.args.edition c.if-edition-eq2.false
