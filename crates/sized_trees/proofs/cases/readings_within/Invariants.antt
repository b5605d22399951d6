use Rattle.std.proofs.Common.{◌≡◌, drop}
use Rattle.std.specs.List.{list_all}
use Rattle.monomorph.specs.Reading.{inside_of}
use Rattle.sized_trees.specs.Cases.{reading_within}
use Rattle.sized_trees.proofs.cases.readings_within.Given as goal

-- the rest decides
abbrev pub invariant-loop-reading : goal.invariant-loop-reading
invariant-loop-reading l =
    list_all (reading_within (inside_of l.inside) l.picked) (drop l.reading-index l.readings)
    ≡ list_all (reading_within (inside_of l.inside) l.picked) l.readings
