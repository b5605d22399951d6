use denote.Param.Weighed.{most}
use Rattle.std.proofs.Common.{◌≡◌, ◌+◌, ◌*◌, drop, map}
use Rattle.sail_types.proofs.types.Typ.TheLaws.{the_size}
use Rattle.sail_types.specs.Readings.{behind, together}
use Rattle.type_arguments.specs.Applied.{applied_typ}
use Rattle.type_arguments.proofs.application.+applied_typ.Given as goal

-- the depth of the type, the types in place of its variables aside; a list of parts stands above each of them
abbrev pub decreases-applied_typ : goal.decreases-applied_typ
decreases-applied_typ l = 2 * the_size l.typ.now

abbrev pub decreases-applied_types : goal.decreases-applied_types
decreases-applied_types l = 2 * most the_size l.parts.now + 1

abbrev pub invariant-applied_types-loop-part : goal.invariant-applied_types-loop-part
invariant-applied_types-loop-part l =
    behind l.made (together (map (applied_typ l.indices l.types) (drop l.part-index l.parts)))
    ≡ together (map (applied_typ l.indices l.types) l.parts)
