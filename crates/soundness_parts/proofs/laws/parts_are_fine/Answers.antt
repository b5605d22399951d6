use Rattle.soundness_parts.proofs.PartKinds.{part_kind}
use Rattle.soundness_parts.proofs.laws.parts_are_fine.Goals as goal

pub returns : goal.returns
returns c = λ fit q w narrow suffixes. part_kind q w fit narrow suffixes
