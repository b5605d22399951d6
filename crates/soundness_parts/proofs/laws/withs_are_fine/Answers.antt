use Rattle.soundness_parts.proofs.WithKinds.{with_kind}
use Rattle.soundness_parts.proofs.laws.withs_are_fine.Goals as goal

pub returns : goal.returns
returns c = λ fit q w narrow u ks. with_kind fit q w narrow u ks
