use Rattle.std.proofs.Common.{◌≡◌, ◌∷◌, drop, take}
use Rattle.linear.specs.Numbers.{are_within, scaled}
use Rattle.farkas.proofs.points.with_others.Given as goal

abbrev pub invariant-loop-value : goal.invariant-loop-value
invariant-loop-value l = record {
  numerators : l.numerators ≡ l.fn.numerator ∷ scaled l.times (take l.value-index l.value-items);
  within : are_within (scaled l.times (drop l.value-index l.value-items)) ≡ are_within (scaled l.times l.point.numerators);
}
