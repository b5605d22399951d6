use Rattle.sized_patterns.proofs.Stay.{parts_stay_sized}
use Rattle.sized_patterns.proofs.laws.parts_stay_sized.Goals as goal

pub returns : goal.returns
returns c = parts_stay_sized
