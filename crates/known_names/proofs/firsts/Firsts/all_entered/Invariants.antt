use Rattle.std.proofs.Common.{◌≡◌, List, ◌++◌, drop}
use Rattle.sail_globals.specs.declared.naming.Naming.{Naming}
use Rattle.known_names.specs.Held.{AreFirstOf}
use Rattle.known_names.specs.Meanings.{members_entered}
use Rattle.known_names.proofs.firsts.Firsts.all_entered.Given as goal

abbrev pub invariant-loop-member : goal.invariant-loop-member
invariant-loop-member l = (namings : List Naming) → AreFirstOf namings l.self
    → l.entered ++ members_entered namings (drop l.member-index l.members) ≡ members_entered namings l.members
