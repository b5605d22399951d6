use Rattle.std.proofs.Common.{◌≡◌, ◌++◌, drop}
use Rattle.shape_models.specs.Models.{added_to_name}
use Rattle.shape_models.specs.Held.{held}
use Rattle.shape_models.proofs.overloads.added_to_name.Given as goal

abbrev pub invariant-loop-definition : goal.invariant-loop-definition
invariant-loop-definition l = l.added ++ added_to_name l.types (held l.values) (drop l.definition-index l.definitions) l.name
    ≡ added_to_name l.types (held l.values) l.definitions l.name
