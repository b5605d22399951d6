use Rattle.safe_models.proofs.PlacedVariables.{variables_placed}
use Rattle.safe_models.proofs.laws.variables_have_places.Goals as goal

pub returns : goal.returns
returns c = variables_placed
