use Rattle.std.proofs.Common.{List, take}
use Rattle.sail_globals.specs.declared.naming.Naming.{Naming}
use Rattle.known_names.specs.Held.{AreFirstOf, AreEntered, entered_at}
use Rattle.known_names.proofs.entered.find_entered.Given as goal

abbrev pub invariant-loop-definition : goal.invariant-loop-definition
invariant-loop-definition l = (namings : List Naming) → AreFirstOf namings l.firsts
    → AreEntered namings (take l.definition-index l.definitions) (entered_at l.entered.names)
