use Rattle.std.proofs.Common.{◌≡◌, drop}
use Rattle.shape_rules.specs.Findings.{first_failure}
use Rattle.shape_declarations.specs.Vals.{variables_faults}
use Rattle.shape_declarations.proofs.vals.note_variables.Given as goal

abbrev pub invariant-loop-parameter : goal.invariant-loop-parameter
invariant-loop-parameter l = first_failure l.first.error (variables_faults l.types l.variables (drop l.parameter-index l.parameters))
    ≡ first_failure l.initial.first.error (variables_faults l.types l.variables l.parameters)
