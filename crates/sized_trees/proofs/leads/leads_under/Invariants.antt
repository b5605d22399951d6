use Rattle.std.proofs.Common.{◌≡◌, ◌++◌, drop}
use Rattle.monomorph.specs.Reading.{inside_of}
use Rattle.sized_trees.specs.Cases.{leads_under}
use Rattle.sized_trees.proofs.leads.leads_under.Given as goal

abbrev pub invariant-loop-picked : goal.invariant-loop-picked
invariant-loop-picked l =
    l.leads ++ leads_under (inside_of l.inside) l.list l.call.operands.now l.call.function l.call.numbers.now l.call.types.now
    (drop l.picked-index l.combinations)
    ≡ leads_under (inside_of l.inside) l.list l.call.operands.now l.call.function l.call.numbers.now l.call.types.now l.combinations
