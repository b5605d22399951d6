use Rattle.std.proofs.Common.{◌≡◌, ◌++◌, drop}
use Rattle.type_definitions.specs.Defined.{variables_of}
use Rattle.type_definitions.proofs.parameters.variables_of.Given as goal

abbrev pub invariant-loop-parameter : goal.invariant-loop-parameter
invariant-loop-parameter l = l.variables ++ variables_of (drop l.parameter-index l.parameters) ≡ variables_of l.parameters
