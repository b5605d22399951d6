use Rattle.std.proofs.Common.{◌≡◌, drop}
use Rattle.std.specs.List.{list_all}
use Rattle.monomorph.specs.Reading.{inside_of}
use Rattle.tabled_cores.specs.Notes.{choice_passes}
use Rattle.tabled_cores.proofs.made.all_pass.Given as goal

-- the rest decides
abbrev pub invariant-loop-choice : goal.invariant-loop-choice
invariant-loop-choice l =
    list_all (choice_passes (inside_of l.inside) l.operands l.made l.value) (drop l.choice-index l.choices)
    ≡ list_all (choice_passes (inside_of l.inside) l.operands l.made l.value) l.choices
