use Rattle.std.proofs.Common.{◌≡◌, ◌++◌, drop}
use Rattle.sail_kinds.specs.Scopes.{within}
use Rattle.shape_declarations.specs.Signatures.{parameters_numbers}
use Rattle.shape_declarations.proofs.signatures.push_parameters_numbers.Given as goal

abbrev pub invariant-loop-parameter : goal.invariant-loop-parameter
invariant-loop-parameter l = l.numbers ++ parameters_numbers (within l.scope) (drop l.parameter-index l.parameters)
    ≡ l.initial.numbers ++ parameters_numbers (within l.scope) l.parameters
