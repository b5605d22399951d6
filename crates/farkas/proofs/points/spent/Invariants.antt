use Rattle.std.proofs.Common.{◌≡◌, ◌+◌, drop}
use Rattle.farkas.specs.Points.{spent}
use Rattle.farkas.proofs.points.spent.Given as goal

abbrev pub invariant-loop-value : goal.invariant-loop-value
invariant-loop-value l = record {
  place : l.place ≡ l.from + l.value-index;
  same : spent l.rest (drop l.place l.coefficients) (drop l.value-index l.values) ≡ spent l.fn.whole (drop l.from l.coefficients) l.values;
}
