use Rattle.std.proofs.Common.{◌≡◌, drop}
use Rattle.std.specs.List.{list_all}
use Rattle.monomorph.specs.Reading.{inside_of}
use Rattle.tabled_cores.specs.Notes.{tells}
use Rattle.tabled_cores.proofs.sizes.tells_each.Given as goal

-- the rest decides
abbrev pub invariant-loop-picked : goal.invariant-loop-picked
invariant-loop-picked l =
    list_all (tells (inside_of l.inside) l.reading) (drop l.picked-index l.combinations)
    ≡ list_all (tells (inside_of l.inside) l.reading) l.combinations
