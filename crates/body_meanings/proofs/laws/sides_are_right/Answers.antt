use Rattle.body_meanings.proofs.Sides.{sides_right}
use Rattle.body_meanings.proofs.laws.sides_are_right.Goals as goal

pub returns : goal.returns
returns c = sides_right
