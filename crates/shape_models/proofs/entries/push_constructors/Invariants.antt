use Rattle.std.proofs.Common.{◌≡◌, ◌++◌, drop}
use Rattle.shape_models.specs.Models.{constructors_from}
use Rattle.shape_models.proofs.entries.push_constructors.Given as goal

abbrev pub invariant-loop-place : goal.invariant-loop-place
invariant-loop-place l = l.entries ++ constructors_from l.union_place l.count l.place (drop l.place l.fields)
    ≡ l.initial.entries ++ constructors_from l.union_place l.count 0 l.fields
