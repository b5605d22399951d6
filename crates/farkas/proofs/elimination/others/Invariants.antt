use Rattle.std.proofs.Common.{◌≡◌, ◌++◌, drop}
use Rattle.farkas.specs.Elimination.{others}
use Rattle.farkas.proofs.elimination.others.Given as goal

abbrev pub invariant-loop-held : goal.invariant-loop-held
invariant-loop-held l = l.rows ++ others l.variable (drop l.held-index l.stage) ≡ others l.variable l.stage
