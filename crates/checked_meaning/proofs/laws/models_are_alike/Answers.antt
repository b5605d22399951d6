use Rattle.checked_meaning.proofs.Models.{models_alike}
use Rattle.checked_meaning.proofs.laws.models_are_alike.Goals as goal

pub returns : goal.returns
returns c = models_alike
