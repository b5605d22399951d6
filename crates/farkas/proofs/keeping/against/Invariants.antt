use Rattle.std.proofs.Common.{◌≡◌, drop}
use Rattle.farkas.specs.Keeping.{against}
use Rattle.farkas.proofs.keeping.against.Given as goal

abbrev pub invariant-loop-place : goal.invariant-loop-place
invariant-loop-place l = against l.row l.place (drop l.place l.kept) ≡ against l.row 0 l.kept
