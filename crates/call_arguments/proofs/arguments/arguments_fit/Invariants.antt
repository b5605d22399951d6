use Rattle.std.proofs.Common.{◌≡◌, drop}
use Rattle.value_fits.specs.Fitting.{fits}
use Rattle.call_arguments.specs.Placing.{also_placing, arguments_fit, placing}
use Rattle.call_arguments.proofs.arguments.arguments_fit.Given as goal

-- what is owed so far, and what the rest owes
abbrev pub invariant-loop-index : goal.invariant-loop-index
invariant-loop-index l =
    also_placing (placing l.known l.made)
    (arguments_fit (fits l.types) l.indices l.readings (drop l.index l.nested) (drop l.index l.parameters) (drop l.index l.values))
    ≡ arguments_fit (fits l.types) l.indices l.readings l.nested l.parameters l.values l.fn.known l.next
