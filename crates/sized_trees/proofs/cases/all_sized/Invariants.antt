use Rattle.std.proofs.Common.{◌≡◌, ◌++◌, drop, map}
use Rattle.monomorph.specs.Reading.{inside_of}
use Rattle.sized_trees.specs.Cases.{sized_under}
use Rattle.sized_trees.proofs.cases.all_sized.Given as goal

abbrev pub invariant-loop-indices : goal.invariant-loop-indices
invariant-loop-indices l =
    l.made ++ map (sized_under (inside_of l.inside) l.picked) (drop l.indices-index l.values)
    ≡ map (sized_under (inside_of l.inside) l.picked) l.values
