use Rattle.std.proofs.Common.{◌≡◌, drop}
use Rattle.shape_rules.specs.Findings.{first_failure}
use Rattle.shape_models.specs.Sources.{tabled_by}
use Rattle.shape_declarations.specs.Failures.{types_faults}
use Rattle.shape_declarations.proofs.definitions.note_types.Given as goal

abbrev pub invariant-loop-definition : goal.invariant-loop-definition
invariant-loop-definition l = first_failure l.first.error (types_faults (tabled_by l.source) (drop l.definition-index l.definitions))
    ≡ first_failure l.initial.first.error (types_faults (tabled_by l.source) l.definitions)
