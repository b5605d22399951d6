use Rattle.std.proofs.Common.{◌≡◌, ◌+◌, ◌≤◌, drop}
use Rattle.call_arguments.specs.Callees.{type_parameters}
use Rattle.call_arguments.proofs.callees.type_parameters.Given as goal

abbrev pub invariant-loop-parameter : goal.invariant-loop-parameter
invariant-loop-parameter l = record {
  counted : l.count + type_parameters (drop l.parameter-index l.parameters) ≡ type_parameters l.parameters;
  within : l.count ≤ l.parameter-index;
}
