use Rattle.soundness_sizes.proofs.SizeKinds.{constraint_kind}
use Rattle.soundness_sizes.proofs.laws.constraints_are_fine.Goals as goal

pub returns : goal.returns
returns c = constraint_kind
