use denote.Param.Weighed.{most}
use Rattle.std.proofs.Common.{◌≡◌, ◌+◌, ◌*◌, drop, map}
use Rattle.sail_types.proofs.types.Typ.TheLaws.{the_size}
use Rattle.size_values.specs.Hanging.{one_open, typ_open}
use Rattle.size_values.proofs.hanging.+typ_open.Given as goal

abbrev pub invariant-one_open-loop-part : goal.invariant-one_open-loop-part
invariant-one_open-loop-part l =
    one_open (map (typ_open l.marks) (drop l.part-index l.parts)) l.constants ≡ one_open (map (typ_open l.marks) l.parts) l.constants

-- the depth of the type; a list stands above each of its parts
abbrev pub decreases-typ_open : goal.decreases-typ_open
decreases-typ_open l = 2 * the_size l.typ.now

abbrev pub decreases-one_open : goal.decreases-one_open
decreases-one_open l = 2 * most the_size l.parts.now + 1
