use Rattle.std.proofs.Common.{◌≡◌}
use Rattle.call_arguments.specs.Placing.{placed_within}
use Rattle.call_arguments.proofs.places.place_within.Given as goal

-- those so far have their places
abbrev pub invariant-loop-variable : goal.invariant-loop-variable
invariant-loop-variable l = l.known ≡ placed_within l.typ l.value l.variable l.fn.known
