use Rattle.std.proofs.Common.{◌≡◌, drop}
use Rattle.std.specs.List.{list_all}
use Rattle.monomorph.specs.Reading.{inside_of}
use Rattle.sized_trees.specs.Cases.{value_within}
use Rattle.sized_trees.proofs.cases.values_within.Given as goal

-- the rest decides
abbrev pub invariant-loop-indices : goal.invariant-loop-indices
invariant-loop-indices l =
    list_all (value_within (inside_of l.inside) l.picked) (drop l.indices-index l.values)
    ≡ list_all (value_within (inside_of l.inside) l.picked) l.values
