use Rattle.soundness_values.proofs.NamedKinds.{struct_kind}
use Rattle.soundness_values.proofs.laws.structs_are_fine.Goals as goal

pub returns : goal.returns
returns c = λ fit q w narrow u ks. struct_kind fit q w narrow u ks
