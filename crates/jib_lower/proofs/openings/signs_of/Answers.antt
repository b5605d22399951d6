use Rattle.std.proofs.Common.{refl}
use Rattle.jib_lower.proofs.openings.signs_of.Goals as goal

pub returns : goal.returns
returns c = record { shell = refl; lets = c.as_slice-lets.ensures; called = refl; turned = refl; below = refl; result_is = refl; is_pure = refl }
