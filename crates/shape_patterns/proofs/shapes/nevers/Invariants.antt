use Rattle.std.proofs.Common.{◌≡◌, replicate}
use Rattle.sail_types.specs.declared.shapes.Shape.TheVariants as V
use Rattle.shape_patterns.proofs.shapes.nevers.Given as goal

abbrev pub invariant-loop-at : goal.invariant-loop-at
invariant-loop-at l = l.made ≡ replicate l._at V.Never
