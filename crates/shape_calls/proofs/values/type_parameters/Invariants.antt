use Rattle.std.proofs.Common.{◌≡◌, ◌+◌, ◌≤◌, drop}
use Rattle.shape_rules.specs.Values.{type_parameters}
use Rattle.shape_calls.proofs.values.type_parameters.Given as goal

abbrev pub invariant-loop-parameter : goal.invariant-loop-parameter
invariant-loop-parameter l = record {
  within : l.count ≤ l.parameter-index;
  rest : l.count + type_parameters (drop l.parameter-index l.parameters) ≡ type_parameters l.parameters;
}
