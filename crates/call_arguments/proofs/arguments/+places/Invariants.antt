use denote.Param.Weighed.{most}
use Rattle.std.proofs.Common.{◌≡◌, ◌+◌, ◌*◌, drop, map}
use Rattle.sail_types.proofs.types.Typ.TheLaws.{the_size}
use Rattle.value_fits.specs.Fitting.{fits}
use Rattle.call_arguments.specs.Placing.{also_placing, each_placing, parameter_fits, placing}
use Rattle.call_arguments.proofs.arguments.+places.Given as goal

-- the depth of the parameter's type; a tuple stands above its parts
abbrev pub decreases-parameter_fits : goal.decreases-parameter_fits
decreases-parameter_fits l = 3 * the_size l.typ.now

abbrev pub decreases-tuple_fits : goal.decreases-tuple_fits
decreases-tuple_fits l = 3 * most the_size l.parts.now + 2

abbrev pub decreases-each_fits : goal.decreases-each_fits
decreases-each_fits l = 3 * most the_size l.parts.now + 1

-- what is owed so far, and what the rest owes
abbrev pub invariant-each_fits-loop-index : goal.invariant-each_fits-loop-index
invariant-each_fits-loop-index l =
    let one = parameter_fits (fits l.types) l.indices l.readings in
    also_placing (placing l.known l.made) (each_placing (map one (drop l.index l.parts)) (drop l.index l.values))
    ≡ each_placing (map one l.parts) l.values l.fn.known l.next
