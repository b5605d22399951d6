use Rattle.std.proofs.Common.{◌≡◌, ◌+◌, drop}
use Rattle.shape_joins.specs.Numbering.{first_place}
use Rattle.shape_joins.proofs.clashes.first_place.Given as goal

abbrev pub invariant-loop-other : goal.invariant-loop-other
invariant-loop-other l =
    (l.place ≡ l.other-index) × (l.place + first_place (drop l.other-index l.variables) l.variable ≡ first_place l.variables l.variable)
