use Rattle.std.proofs.Common.{◌≡◌, drop, Some}
use Rattle.std.specs.List.{fold}
use Rattle.farkas.specs.Points.{bounded, no_bounds}
use Rattle.farkas.proofs.points.all_bounds.Given as goal

abbrev pub invariant-loop-held : goal.invariant-loop-held
invariant-loop-held l = fold (bounded l.variable l.point) (Some l.bounds) (drop l.held-index l.stage) ≡ fold (bounded l.variable l.point)
    (Some no_bounds) l.stage
