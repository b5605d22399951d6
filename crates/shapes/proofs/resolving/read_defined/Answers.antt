use Rattle.std.proofs.Common.{◌∙◌}
use Rattle.shapes.proofs.resolving.read_defined.Goals as goal

pub returns-clause-core : goal.returns-clause-core
returns-clause-core c = λ text end are. c.into_core.ensures ∙ c.in_ok-read.ensures.core text end are
