use Rattle.safe_models.proofs.Listed.{found_lists}
use Rattle.safe_models.proofs.laws.found_lists_cover.Goals as goal

pub returns : goal.returns
returns c = found_lists c.lists_cover.ensures
