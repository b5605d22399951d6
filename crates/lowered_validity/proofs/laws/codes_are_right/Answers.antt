use Rattle.lowered_validity.specs.Laws.{CodesAreRight}
use Rattle.lowered_validity.proofs.Whole.{codes_right}
use Rattle.lowered_validity.proofs.laws.codes_are_right.Goals as goal

right : CodesAreRight
right m f n h once room = codes_right m f n once room h

pub returns : goal.returns
returns c = right
