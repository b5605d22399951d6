use Rattle.std.proofs.Common.{◌≡◌, map, drop}
use Rattle.shape_rules.specs.Findings.{first_failure}
use Rattle.shape_rules.specs.Written.{joined}
use Rattle.shape_models.specs.Models.{operator_added}
use Rattle.shape_models.specs.Overloads.{overload_faults}
use Rattle.shape_models.specs.Held.{held}
use Rattle.shape_models.proofs.overloads.note_each.Given as goal

abbrev pub invariant-loop-operator : goal.invariant-loop-operator
invariant-loop-operator l = first_failure l.first.error
    (joined (map (λ operator. overload_faults (operator_added l.types (held l.values) l.definitions operator)) (drop l.operator-index l.all)))
    ≡ first_failure l.initial.first.error
    (joined (map (λ operator. overload_faults (operator_added l.types (held l.values) l.definitions operator)) l.all))
