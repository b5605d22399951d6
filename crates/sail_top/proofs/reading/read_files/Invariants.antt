use Rattle.std.proofs.Common.{◌≡◌, ◌<◌, ◌≤◌, [], map, drop, Some}
use Rattle.sail_outside.specs.Files.{Files}
use Rattle.sail_top.specs.parts.Borrowed.{as_wanted}
use Rattle.sail_top.proofs.ReadingLemmas.{ReadSoFar}
use Rattle.sail_top.proofs.reading.read_files.Given as goal

abbrev pub invariant-loop-number : goal.invariant-loop-number
invariant-loop-number g l =
    let held = g.S.Shelf.holds l.fn.shelf in
    record {
      same : g.S.Shelf.holds l.shelf ≡ held;
      faults : g.S.Shelf.faults l.fn.shelf ≤ g.S.Shelf.faults l.shelf;
      read : ReadSoFar held (map as_wanted l.wanted) l.files l.number (map as_wanted (drop l.number l.wanted));
      left : (all : Files) → held ≡ Some all → 0 < l.number → g.S.Shelf.left l.shelf ≡ Some [];
    }
