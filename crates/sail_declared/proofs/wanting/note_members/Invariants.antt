use Rattle.std.proofs.Common.{◌≡◌, List, drop}
use Rattle.sail_kinds.specs.Failures.{first_failure}
use Rattle.sail_globals.specs.declared.naming.Naming.{Naming}
use Rattle.sail_globals.specs.Globals.{AreOf}
use Rattle.sail_declared.specs.Wanting.{members_failures}
use Rattle.sail_declared.proofs.wanting.note_members.Given as goal

abbrev pub invariant-loop-name : goal.invariant-loop-name
invariant-loop-name l = (namings : List Naming) → AreOf namings l.globals
    → first_failure l.first.error (members_failures namings (drop l.name-index l.names)) ≡ first_failure l.initial.first.error (members_failures namings l.names)
