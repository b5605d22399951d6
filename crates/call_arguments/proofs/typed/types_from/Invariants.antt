use Rattle.std.proofs.Common.{◌≡◌, ◌-◌, ◌++◌}
use Rattle.call_arguments.specs.Callees.{types_from}
use Rattle.call_arguments.proofs.typed.types_from.Given as goal

abbrev pub invariant-loop-variable : goal.invariant-loop-variable
invariant-loop-variable l =
    l.made ++ types_from l.from l.variable (l.count - l.variable) l.types l.arguments ≡ types_from l.from 0 l.count l.types l.arguments
