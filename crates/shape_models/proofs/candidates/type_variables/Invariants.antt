use Rattle.std.proofs.Common.{◌≡◌, ◌+◌, ◌≤◌, drop}
use Rattle.shape_models.specs.Models.{type_variables}
use Rattle.shape_models.proofs.candidates.type_variables.Given as goal

abbrev pub invariant-loop-variable : goal.invariant-loop-variable
invariant-loop-variable l = record {
  counted : l.count + type_variables (drop l.variable-index l.variables) ≡ type_variables l.variables;
  fits : l.count ≤ l.variable-index;
}
