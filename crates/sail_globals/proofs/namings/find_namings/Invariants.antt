use Rattle.std.proofs.Common.{◌≡◌, ◌++◌, drop}
use Rattle.sail_globals.specs.Namings.{namings_from}
use Rattle.sail_globals.specs.Held.{has_member}
use Rattle.sail_globals.proofs.namings.find_namings.Given as goal

abbrev pub invariant-loop-index : goal.invariant-loop-index
invariant-loop-index l =
    l.list ++ namings_from (has_member l.members) l.index (drop l.index l.definitions) ≡ namings_from (has_member l.members) 0 l.definitions
