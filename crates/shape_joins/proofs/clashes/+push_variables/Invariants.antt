use Rattle.std.proofs.Common.{◌≡◌, ◌++◌, drop}
use Rattle.shape_joins.specs.Numbering.{variables_in}
use Rattle.shape_joins.proofs.clashes.+push_variables.Given as goal

abbrev pub invariant-push_all_variables-loop-shape : goal.invariant-push_all_variables-loop-shape
invariant-push_all_variables-loop-shape l = l.found ++ variables_in (drop l.shape-index l.shapes) ≡ l.initial.found ++ variables_in l.shapes
