use Rattle.std.proofs.Common.{◌≡◌, drop}
use Rattle.std.specs.List.{fold}
use Rattle.farkas.specs.Elimination.{Going, downs, paired}
use Rattle.farkas.proofs.elimination.meet_all.Given as goal

abbrev pub invariant-loop-down : goal.invariant-loop-down
invariant-loop-down l = fold (paired l.count l.variable l.up) (Going l.held l.steps) (downs l.variable (drop l.down-index l.stage)) ≡ fold
    (paired l.count l.variable l.up) (Going l.fn.held l.fn.steps) (downs l.variable l.stage)
