use Rattle.std.proofs.Common.{◌∙◌}
use Rattle.jib_lower.proofs.instances.number_of.Goals as goal

pub returns : goal.returns
returns c = c.in_ok-number.ensures ∙ c.find-place.ensures
