use Rattle.std.proofs.Common.{refl}
use Rattle.jib_lower.proofs.openings.around_of.Goals as goal

pub returns : goal.returns
returns c = record { instances = c.as_slice-instances.ensures; given = refl; openings = c.as_slice-openings.ensures; before = refl }
