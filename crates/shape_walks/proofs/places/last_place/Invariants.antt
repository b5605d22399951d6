use Rattle.std.proofs.Common.{◌≡◌, drop, map}
use Rattle.shape_rules.specs.Values.{last_place}
use Rattle.shape_walks.specs.Trees.{suffix_part}
use Rattle.shape_walks.proofs.LastPlaces.{last_behind}
use Rattle.shape_walks.proofs.places.last_place.Given as goal

abbrev pub invariant-loop-suffix : goal.invariant-loop-suffix
invariant-loop-suffix l =
    last_behind l.first l.place (map suffix_part (drop l.suffix-index l.suffixes)) ≡ last_place l.first (map suffix_part l.suffixes)
