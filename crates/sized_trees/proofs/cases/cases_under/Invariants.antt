use Rattle.std.proofs.Common.{◌≡◌, ◌++◌, drop}
use Rattle.monomorph.specs.Reading.{inside_of}
use Rattle.sized_trees.specs.Cases.{cases_under}
use Rattle.sized_trees.proofs.cases.cases_under.Given as goal

abbrev pub invariant-loop-choice : goal.invariant-loop-choice
invariant-loop-choice l =
    l.cases ++ cases_under (inside_of l.inside) l.operands l.value (drop l.choice-index l.choices)
    ≡ cases_under (inside_of l.inside) l.operands l.value l.choices
