use Rattle.std.proofs.Common.{◌≡◌, ◌++◌, map, drop}
use Rattle.shape_rules.specs.Written.{joined}
use Rattle.shape_models.specs.Models.{overloads_by, overloads_in}
use Rattle.shape_models.specs.Held.{held}
use Rattle.shape_models.proofs.overloads.find_named.Given as goal

abbrev pub invariant-loop-definition : goal.invariant-loop-definition
invariant-loop-definition l = l.named ++ joined (map (overloads_by l.types (held l.values) l.definitions) (drop l.definition-index l.definitions))
    ≡ overloads_in l.types (held l.values) l.definitions
