use Rattle.shape_meanings.proofs.Choosing.{same_choice}
use Rattle.shape_meanings.proofs.laws.choices_are_the_same.Goals as goal

pub returns : goal.returns
returns c = same_choice
