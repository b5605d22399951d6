use Rattle.std.proofs.Common.{◌≡◌, take, drop}
use Rattle.sail_kinds.specs.Failures.{first_failure}
use Rattle.sail_globals.specs.Clashes.{clashes, clashes_behind}
use Rattle.sail_globals.specs.Held.{spaces_at, AreHeld}
use Rattle.sail_globals.proofs.clashes.note_clashes.Given as goal

abbrev pub invariant-loop-naming : goal.invariant-loop-naming
invariant-loop-naming l = record {
  held : AreHeld (take l.naming-index l.namings) (spaces_at l.taken.names);
  failures : first_failure l.first.error (clashes_behind (take l.naming-index l.namings) (drop l.naming-index l.namings))
      ≡ first_failure l.initial.first.error (clashes l.namings);
}
