use Rattle.std.proofs.Common.{◌≡◌, ◌++◌, drop}
use Rattle.shape_declarations.specs.Signatures.{type_names}
use Rattle.shape_declarations.proofs.signatures.type_names.Given as goal

abbrev pub invariant-loop-variable : goal.invariant-loop-variable
invariant-loop-variable l = l.made ++ type_names (drop l.variable-index l.variables) ≡ type_names l.variables
