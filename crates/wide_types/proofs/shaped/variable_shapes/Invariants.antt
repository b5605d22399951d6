use Rattle.std.proofs.Common.{◌≡◌, ◌-◌, ◌++◌}
use Rattle.wide_types.specs.Widening.{variable_shapes}
use Rattle.wide_types.proofs.shaped.variable_shapes.Given as goal

abbrev pub invariant-loop-variable : goal.invariant-loop-variable
invariant-loop-variable l =
    l.made ++ variable_shapes l.variable (l.count - l.variable) l.typ l.shape ≡ variable_shapes 0 l.count l.typ l.shape
