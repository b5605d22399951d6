use Rattle.std.proofs.Common.{◌≡◌, ◌++◌, drop}
use Rattle.type_definitions.specs.Defined.{names_of}
use Rattle.type_definitions.proofs.parameters.names_of.Given as goal

abbrev pub invariant-loop-parameter : goal.invariant-loop-parameter
invariant-loop-parameter l = l.names ++ names_of (drop l.parameter-index l.parameters) ≡ names_of l.parameters
