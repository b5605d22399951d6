use Rattle.soundness_values.proofs.Mappings.{converts_kind}
use Rattle.soundness_values.proofs.laws.mappings_are_fine.Goals as goal

pub returns : goal.returns
returns c = λ fit q w closed d. converts_kind fit q w closed d
