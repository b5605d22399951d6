use denote.Param.Weighed.{most}
use Rattle.std.proofs.Common.{◌≡◌, ◌+◌, ◌*◌, drop, map}
use Rattle.sail_types.proofs.types.Typ.TheLaws.{the_size}
use Rattle.wide_types.specs.Widening.{shaped, shaped_among}
use Rattle.wide_types.proofs.shaped.+shaped.Given as goal

-- the depth of the type; a list stands above each of its parts
abbrev pub decreases-shaped : goal.decreases-shaped
decreases-shaped l = 3 * the_size l.typ.now

abbrev pub decreases-shaped_inside : goal.decreases-shaped_inside
decreases-shaped_inside l = 3 * the_size l.item.now + 1

abbrev pub decreases-shaped_among : goal.decreases-shaped_among
decreases-shaped_among l = 3 * most the_size l.types.now + 2

-- the rest decides
abbrev pub invariant-shaped_among-loop-index : goal.invariant-shaped_among-loop-index
invariant-shaped_among-loop-index l =
    shaped_among (map shaped (drop l.index l.types)) l.variable (drop l.index l.shapes) ≡ shaped_among (map shaped l.types) l.variable l.shapes
