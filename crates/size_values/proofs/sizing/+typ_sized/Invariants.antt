use denote.Param.Weighed.{most}
use Rattle.std.proofs.Common.{◌≡◌, ◌+◌, ◌*◌, ◌++◌, drop, map}
use Rattle.sail_types.proofs.types.Typ.TheLaws.{the_size}
use Rattle.size_values.specs.Sized.{each_sized, typ_sized}
use Rattle.size_values.proofs.sizing.+typ_sized.Given as goal

abbrev pub invariant-types_sized-loop-part : goal.invariant-types_sized-loop-part
invariant-types_sized-loop-part l =
    l.made ++ each_sized (map (typ_sized l.types l.own) (drop l.part-index l.parts)) l.constants
    ≡ each_sized (map (typ_sized l.types l.own) l.parts) l.constants

-- the depth of the type; a list stands above each of its parts
abbrev pub decreases-typ_sized : goal.decreases-typ_sized
decreases-typ_sized l = 2 * the_size l.typ.now

abbrev pub decreases-types_sized : goal.decreases-types_sized
decreases-types_sized l = 2 * most the_size l.parts.now + 1
