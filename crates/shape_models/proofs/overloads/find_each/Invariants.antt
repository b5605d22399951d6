use Rattle.std.proofs.Common.{◌≡◌, ◌++◌, map, drop}
use Rattle.shape_models.specs.Models.{candidates, added_to_operator}
use Rattle.shape_models.specs.Held.{held}
use Rattle.shape_models.proofs.overloads.find_each.Given as goal

abbrev pub invariant-loop-operator : goal.invariant-loop-operator
invariant-loop-operator l = l.found ++ map (λ operator. candidates (added_to_operator l.types (held l.values) l.definitions operator)) (drop l.operator-index l.all)
    ≡ map (λ operator. candidates (added_to_operator l.types (held l.values) l.definitions operator)) l.all
