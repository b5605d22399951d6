use Rattle.std.proofs.Common.{◌≡◌, ◌-◌, [], length}
use Rattle.farkas.specs.Elimination.{solved, numbered}
use Rattle.farkas.proofs.elimination.solve.Given as goal

abbrev pub invariant-loop-variable : goal.invariant-loop-variable
invariant-loop-variable l = solved l.count (l.variables - l.variable) l.variable l.held l.steps l.stages ≡ solved (length l.starts) l.variables 0
    (numbered 1 l.starts) [] []
