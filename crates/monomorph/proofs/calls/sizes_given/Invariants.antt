use Rattle.std.proofs.Common.{◌≡◌, ◌++◌, drop, map}
use Rattle.size_values.specs.Sizes.{joined, reading_sizes}
use Rattle.monomorph.specs.Reading.{inside_of, under}
use Rattle.monomorph.proofs.calls.sizes_given.Given as goal

abbrev pub invariant-loop-reading : goal.invariant-loop-reading
invariant-loop-reading l =
    l.made ++ joined (map (reading_sizes l.inside.types.now (under (inside_of l.inside) l.picked)) (drop l.reading-index l.types))
    ≡ joined (map (reading_sizes l.inside.types.now (under (inside_of l.inside) l.picked)) l.types)
