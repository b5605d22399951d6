use Rattle.soundness_fits.proofs.Owing.{fits_suffice}
use Rattle.soundness_targets.proofs.AssignKind.{assign_kind}
use Rattle.soundness_targets.proofs.laws.assignments_are_fine.Goals as goal

pub returns : goal.returns
returns c = λ q w narrow closed places mappings targets. assign_kind fits_suffice q w narrow closed places mappings targets
