use Rattle.std.proofs.Common.{take}
use Rattle.known_names.specs.Held.{AreFirstOf}
use Rattle.known_names.proofs.firsts.find_firsts.Given as goal

abbrev pub invariant-loop-naming : goal.invariant-loop-naming
invariant-loop-naming l = AreFirstOf (take l.naming-index l.namings) l.firsts
