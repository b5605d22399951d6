use Rattle.std.proofs.Common.{◌≡◌, drop}
use Rattle.jib.specs.Valid.{place_from}
use Rattle.jib.proofs.labels.label_place.Given as goal

abbrev pub invariant-loop-place : goal.invariant-loop-place
invariant-loop-place l = place_from l.label 0 l.code ≡ place_from l.label l.place (drop l.place l.code)
