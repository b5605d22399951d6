use Rattle.std.proofs.Common.{◌≡◌}
use Rattle.shape_models.specs.Models.{variables_from}
use Rattle.shape_models.proofs.candidates.variables.Given as goal

abbrev pub invariant-loop-position : goal.invariant-loop-position
invariant-loop-position l = l.made ≡ variables_from 0 l.position
