use Rattle.std.proofs.Common.{◌≡◌, ◌-◌, ◌++◌, length, map}
use Rattle.size_splits.specs.Bodies.{body_read}
use Rattle.size_splits.specs.Sizing.{sizes_from}
use Rattle.size_splits.proofs.sizing.sizes_of.Given as goal

abbrev pub invariant-loop-variable : goal.invariant-loop-variable
invariant-loop-variable l =
    l.made ++ sizes_from l.types l.sizing l.function (map body_read l.bodies) (length l.function.variables - l.variable) l.variable
    ≡ sizes_from l.types l.sizing l.function (map body_read l.bodies) (length l.function.variables) 0
