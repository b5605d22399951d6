use Rattle.covering_laws.proofs.AllListed.{lists_cover}
use Rattle.covering_laws.proofs.lists_cover.Goals as goal

pub returns : goal.returns
returns c = lists_cover
