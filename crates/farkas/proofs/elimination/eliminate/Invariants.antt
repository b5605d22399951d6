use Rattle.std.proofs.Common.{◌≡◌, drop}
use Rattle.farkas.specs.Elimination.{Going, ups, met_all}
use Rattle.farkas.proofs.elimination.eliminate.Given as goal

abbrev pub invariant-loop-up : goal.invariant-loop-up
invariant-loop-up l = met_all l.count l.variable l.stage (Going l.held l.steps)
    (ups l.variable (drop l.up-index l.stage)) ≡ met_all l.count l.variable l.stage (Going l.fn.held l.fn.steps) (ups l.variable l.stage)
