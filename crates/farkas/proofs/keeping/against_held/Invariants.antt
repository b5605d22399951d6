use Rattle.std.proofs.Common.{◌≡◌, drop, map}
use Rattle.farkas.specs.Elimination.{row_of}
use Rattle.farkas.specs.Keeping.{against}
use Rattle.farkas.proofs.keeping.against_held.Given as goal

abbrev pub invariant-loop-place : goal.invariant-loop-place
invariant-loop-place l = against l.row l.place (map row_of (drop l.place l.held)) ≡ against l.row 0 (map row_of l.held)
