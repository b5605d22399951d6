use Rattle.std.proofs.Common.{◌≡◌, ◌++◌, drop}
use Rattle.expression_steps.specs.Calls.{argument_aims}
use Rattle.expression_steps.proofs.aims.argument_aims.Given as goal

abbrev pub invariant-loop-typ : goal.invariant-loop-typ
invariant-loop-typ l = l.made ++ argument_aims (drop l.typ-index l.types) ≡ argument_aims l.types
