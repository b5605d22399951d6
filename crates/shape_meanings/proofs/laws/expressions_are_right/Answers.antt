use Rattle.shape_meanings.proofs.Expressions.{expressions_right}
use Rattle.shape_meanings.proofs.laws.expressions_are_right.Goals as goal

pub returns : goal.returns
returns c = expressions_right
