use Rattle.body_meanings.proofs.Directions.{directions_right}
use Rattle.body_meanings.proofs.laws.directions_are_right.Goals as goal

pub returns : goal.returns
returns c = directions_right
