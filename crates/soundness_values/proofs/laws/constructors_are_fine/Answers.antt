use Rattle.soundness_values.proofs.NamedKinds.{constructor_kind}
use Rattle.soundness_values.proofs.laws.constructors_are_fine.Goals as goal

pub returns : goal.returns
returns c = λ fit q w narrow u c2. constructor_kind fit q w narrow u c2
