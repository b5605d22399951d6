use Rattle.std.proofs.Common.{◌≡◌, drop}
use Rattle.std.specs.List.{list_all}
use Rattle.monomorph.specs.Reading.{inside_of}
use Rattle.tabled_cores.specs.Notes.{has_lead}
use Rattle.tabled_cores.proofs.calls.all_have_leads.Given as goal

-- the rest decides
abbrev pub invariant-loop-picked : goal.invariant-loop-picked
invariant-loop-picked l =
    list_all (has_lead (inside_of l.inside) l.list l.call.operands.now l.call.function l.call.numbers.now l.call.types.now) (drop l.picked-index l.combinations)
    ≡ list_all (has_lead (inside_of l.inside) l.list l.call.operands.now l.call.function l.call.numbers.now l.call.types.now) l.combinations
