use Rattle.std.proofs.Common.{◌≡◌}
use Rattle.size_values.specs.Hanging.{parameters_marked}
use Rattle.size_values.proofs.hanging.parameters_marked.Given as goal

abbrev pub invariant-loop-index : goal.invariant-loop-index
invariant-loop-index l = l.made ≡ parameters_marked l.marks l.fields l.count l.index
