use Rattle.std.proofs.Common.{◌≡◌, drop, map}
use Rattle.value_fits.specs.Fitting.{among, placed}
use Rattle.value_fits.proofs.places.+placed.Given as goal

abbrev pub invariant-placed_among-loop-index : goal.invariant-placed_among-loop-index
invariant-placed_among-loop-index l =
    among (map placed (drop l.index l.types)) l.variable (drop l.index l.values) ≡ among (map placed l.types) l.variable l.values
