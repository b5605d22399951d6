use Rattle.std.proofs.Common.{◌≡◌, drop}
use Rattle.std.specs.List.{list_all}
use Rattle.monomorph.specs.Reading.{inside_of}
use Rattle.tabled_cores.specs.Notes.{has_case_of}
use Rattle.tabled_cores.proofs.made.all_have_cases.Given as goal

-- the rest decides
abbrev pub invariant-loop-choice : goal.invariant-loop-choice
invariant-loop-choice l =
    list_all (has_case_of (inside_of l.inside) l.operands l.value) (drop l.choice-index l.choices)
    ≡ list_all (has_case_of (inside_of l.inside) l.operands l.value) l.choices
