use Rattle.std.proofs.Common.{take}
use Rattle.sail_globals.specs.Globals.{AreOf}
use Rattle.sail_globals.proofs.globals.find_globals.Given as goal

abbrev pub invariant-loop-naming : goal.invariant-loop-naming
invariant-loop-naming l = AreOf (take l.naming-index l.namings) l.globals
