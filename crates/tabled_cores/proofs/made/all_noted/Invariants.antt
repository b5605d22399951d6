use Rattle.std.proofs.Common.{◌≡◌, drop}
use Rattle.std.specs.List.{list_all}
use Rattle.tabled_cores.specs.Notes.{choice_noted}
use Rattle.tabled_cores.proofs.made.all_noted.Given as goal

-- the rest decides
abbrev pub invariant-loop-choice : goal.invariant-loop-choice
invariant-loop-choice l = list_all (choice_noted l.facts) (drop l.choice-index l.choices) ≡ list_all (choice_noted l.facts) l.choices
