use Rattle.std.proofs.Common.{◌≡◌, ◌++◌, drop}
use Rattle.shape_models.specs.Models.{added_to_operator}
use Rattle.shape_models.specs.Held.{held}
use Rattle.shape_models.proofs.overloads.push_all_to_operator.Given as goal

abbrev pub invariant-loop-definition : goal.invariant-loop-definition
invariant-loop-definition l = l.added ++ added_to_operator l.types (held l.values) (drop l.definition-index l.definitions) l.operator
    ≡ l.initial.added ++ added_to_operator l.types (held l.values) l.definitions l.operator
