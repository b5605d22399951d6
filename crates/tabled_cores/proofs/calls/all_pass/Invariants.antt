use Rattle.std.proofs.Common.{◌≡◌, drop}
use Rattle.std.specs.List.{list_all}
use Rattle.monomorph.specs.Reading.{inside_of}
use Rattle.tabled_cores.specs.Notes.{lead_passes}
use Rattle.tabled_cores.proofs.calls.all_pass.Given as goal

-- the rest decides
abbrev pub invariant-loop-picked : goal.invariant-loop-picked
invariant-loop-picked l =
    list_all (lead_passes (inside_of l.inside) l.call.operands.now l.call.function l.call.numbers.now l.call.types.now) (drop l.picked-index l.combinations)
    ≡ list_all (lead_passes (inside_of l.inside) l.call.operands.now l.call.function l.call.numbers.now l.call.types.now) l.combinations
