use Rattle.std.proofs.Common.{◌≡◌, ◌++◌, drop}
use Rattle.type_definitions.specs.Defined.{kinds_of}
use Rattle.type_definitions.proofs.parameters.kinds_of.Given as goal

abbrev pub invariant-loop-parameter : goal.invariant-loop-parameter
invariant-loop-parameter l = l.kinds ++ kinds_of (drop l.parameter-index l.parameters) ≡ kinds_of l.parameters
