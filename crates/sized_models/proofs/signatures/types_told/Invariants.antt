use Rattle.std.proofs.Common.{◌≡◌, ◌++◌, drop}
use Rattle.monomorph.specs.Reading.{inside_of}
use Rattle.sized_trees.specs.Trees.{types_told}
use Rattle.sized_models.proofs.signatures.types_told.Given as goal

abbrev pub invariant-loop-typ : goal.invariant-loop-typ
invariant-loop-typ l =
    l.made ++ types_told (inside_of l.inside) l.numbers (drop l.typ-index l.parts) ≡ types_told (inside_of l.inside) l.numbers l.parts
