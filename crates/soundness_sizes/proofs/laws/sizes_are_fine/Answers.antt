use Rattle.soundness_sizes.proofs.SizeKinds.{size_kind}
use Rattle.soundness_sizes.proofs.laws.sizes_are_fine.Goals as goal

pub returns : goal.returns
returns c = size_kind
