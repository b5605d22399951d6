use Rattle.std.proofs.Common.{◌≡◌, drop}
use Rattle.std.specs.List.{list_all}
use Rattle.monomorph.specs.Reading.{inside_of}
use Rattle.tabled_cores.specs.Notes.{one_passes}
use Rattle.tabled_cores.proofs.sizes.values_pass.Given as goal

-- the rest decides
abbrev pub invariant-loop-indices : goal.invariant-loop-indices
invariant-loop-indices l =
    list_all (one_passes (inside_of l.inside) l.picked) (drop l.indices-index l.values)
    ≡ list_all (one_passes (inside_of l.inside) l.picked) l.values
