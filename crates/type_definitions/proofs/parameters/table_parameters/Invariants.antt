use Rattle.std.proofs.Common.{◌≡◌, ◌++◌, drop}
use Rattle.type_definitions.specs.Defined.{table_parameters}
use Rattle.type_definitions.proofs.parameters.table_parameters.Given as goal

abbrev pub invariant-loop-parameter : goal.invariant-loop-parameter
invariant-loop-parameter l = l.list ++ table_parameters (drop l.parameter-index l.parameters) ≡ table_parameters l.parameters
