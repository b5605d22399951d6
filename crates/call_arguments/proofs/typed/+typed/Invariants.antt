use denote.Param.Weighed.{most}
use Rattle.std.proofs.Common.{◌≡◌, ◌+◌, ◌*◌, drop, map}
use Rattle.sail_types.proofs.types.Typ.TheLaws.{the_size}
use Rattle.call_arguments.specs.Callees.{first_typed, first_type_typed, typed_at}
use Rattle.call_arguments.specs.Holes.{fuller}
use Rattle.call_arguments.proofs.typed.+typed.Given as goal

-- the depth of the parameter's type; a list stands above each of its parts
abbrev pub decreases-typed_value : goal.decreases-typed_value
decreases-typed_value l = 3 * the_size l.typ.now

abbrev pub decreases-typed_type : goal.decreases-typed_type
decreases-typed_type l = 3 * the_size l.typ.now + 1

abbrev pub decreases-first_value : goal.decreases-first_value
decreases-first_value l = 3 * most the_size l.types.now + 2

abbrev pub decreases-first_type : goal.decreases-first_type
decreases-first_type l = 3 * most the_size l.types.now + 2

-- what was found, and what the rest gives
abbrev pub invariant-first_value-loop-index : goal.invariant-first_value-loop-index
invariant-first_value-loop-index l =
    fuller l.made (first_typed (map (typed_at l.from l.variable) (drop l.index l.types)) (drop l.index l.values))
    ≡ first_typed (map (typed_at l.from l.variable) l.types) l.values

abbrev pub invariant-first_type-loop-index : goal.invariant-first_type-loop-index
invariant-first_type-loop-index l =
    fuller l.made (first_type_typed (map (typed_at l.from l.variable) (drop l.index l.types)) (drop l.index l.readings))
    ≡ first_type_typed (map (typed_at l.from l.variable) l.types) l.readings
