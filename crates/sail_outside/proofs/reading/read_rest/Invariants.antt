-- what is taken so far is within the limit, and no fault was counted since the start
use Rattle.std.proofs.Common.{◌≡◌, ◌≤◌, length, ◌+◌, ◌-◌}
use Rattle.sail_outside.proofs.Pieces.{Going}
use Rattle.sail_outside.proofs.reading.read_rest.Given as goal

abbrev pub invariant-loop-bytes : goal.invariant-loop-bytes
invariant-loop-bytes g l = record {
  within : length l.bytes.items ≤ l.limit;
  going : Going (g.S.Shelf.left l.fn.shelf) l.bytes.items (g.S.Shelf.left l.shelf);
  same : g.S.Shelf.holds l.shelf ≡ g.S.Shelf.holds l.fn.shelf;
  later : g.S.Shelf.faults l.fn.shelf ≤ g.S.Shelf.faults l.shelf;
}

abbrev pub decreases-loop-bytes : goal.decreases-loop-bytes
decreases-loop-bytes g l = l.limit + 1 - length l.bytes.items
