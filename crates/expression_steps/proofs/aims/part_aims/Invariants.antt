use Rattle.std.proofs.Common.{◌≡◌, ◌++◌, drop}
use Rattle.expression_steps.specs.Calls.{part_aims}
use Rattle.expression_steps.proofs.aims.part_aims.Given as goal

abbrev pub invariant-loop-typ : goal.invariant-loop-typ
invariant-loop-typ l = l.made ++ part_aims l.known (drop l.typ-index l.types) ≡ part_aims l.known l.types
