use Rattle.std.proofs.Common.{◌≡◌, ◌≤◌, take, length, reverse}
use Rattle.farkas.specs.Points.{went_back, no_point}
use Rattle.farkas.proofs.points.point_from.Given as goal

abbrev pub invariant-loop-left : goal.invariant-loop-left
invariant-loop-left l = record {
  within : l.left ≤ length l.stages;
  same : went_back (reverse (take l.left l.stages)) l.point ≡ went_back (reverse l.stages) no_point;
}

abbrev pub decreases-loop-left : goal.decreases-loop-left
decreases-loop-left l = l.left
