use Rattle.std.proofs.Common.{◌≡◌, ◌++◌, drop}
use Rattle.shape_declarations.specs.Signatures.{number_parameters}
use Rattle.shape_declarations.proofs.signatures.number_parameters.Given as goal

abbrev pub invariant-loop-variable : goal.invariant-loop-variable
invariant-loop-variable l = l.made ++ number_parameters (drop l.variable-index l.variables) ≡ number_parameters l.variables
