use Rattle.std.proofs.Common.{◌≡◌, drop}
use Rattle.std.specs.List.{list_all}
use Rattle.monomorph.specs.Reading.{inside_of}
use Rattle.tabled_cores.specs.Notes.{gives_own}
use Rattle.tabled_cores.proofs.made.all_own.Given as goal

-- the rest decides
abbrev pub invariant-loop-fact : goal.invariant-loop-fact
invariant-loop-fact l =
    list_all (gives_own (inside_of l.inside)) (drop l.fact-index l.facts) ≡ list_all (gives_own (inside_of l.inside)) l.facts
