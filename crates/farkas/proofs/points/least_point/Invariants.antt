use Rattle.std.proofs.Common.{◌≡◌, ◌∷◌, drop, take, map}
use Rattle.std.specs.List.{fold}
use Rattle.linear.specs.Numbers.{gcd, gcd_of}
use Rattle.farkas.specs.Points.{part}
use Rattle.farkas.proofs.points.least_point.Given as goal

abbrev pub invariant-loop-value : goal.invariant-loop-value
invariant-loop-value l = fold gcd l.common (drop l.value-index l.value-items) ≡ gcd_of (l.point.denominator ∷ l.point.numerators)

abbrev pub invariant-loop-value-2 : goal.invariant-loop-value-2
invariant-loop-value-2 l = l.numerators ≡ map (λ x. part x l.common) (take l.value-index l.value-items)
