use Rattle.sized_meanings.specs.Sized.{checks_by}
use Rattle.sized_meanings.proofs.laws.sized_models_are_alike.Goals as goal

pub returns : goal.returns
returns c = λ given m made state. c.models_are_alike.ensures (checks_by given m made) m state
