use Rattle.std.proofs.Common.{◌≡◌, List, drop}
use Rattle.sail_kinds.specs.Failures.{first_failure}
use Rattle.sail_globals.specs.declared.naming.Naming.{Naming}
use Rattle.sail_globals.specs.Globals.{AreOf}
use Rattle.sail_declared.specs.Wanting.{all_wanting}
use Rattle.sail_declared.proofs.wanting.note_wanting.Given as goal

abbrev pub invariant-loop-definition : goal.invariant-loop-definition
invariant-loop-definition l = (namings : List Naming) → AreOf namings l.globals
    → first_failure l.first.error (all_wanting namings (drop l.definition-index l.definitions)) ≡ first_failure l.initial.first.error (all_wanting namings l.definitions)
