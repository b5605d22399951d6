use Rattle.std.proofs.Common.{◌≡◌, ◌++◌, drop, map}
use Rattle.pattern_leaves.specs.Settings.{around_of}
use Rattle.expression_forms.specs.Spots.{spot_of}
use Rattle.expression_forms.proofs.spots.+spot_typ.Given as goal

abbrev pub invariant-each_typ-loop-spot : goal.invariant-each_typ-loop-spot
invariant-each_typ-loop-spot l =
    l.made ++ map (λ s. s.typ) (map (spot_of (around_of l.around)) (drop l.spot-index l.spots)) ≡ map (λ s. s.typ) (map (spot_of (around_of l.around)) l.spots)
