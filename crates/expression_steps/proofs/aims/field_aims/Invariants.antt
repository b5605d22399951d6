use Rattle.std.proofs.Common.{◌≡◌, ◌++◌, drop}
use Rattle.call_arguments.specs.Aims.{each_under}
use Rattle.expression_steps.specs.Values.{due_aims}
use Rattle.expression_steps.proofs.aims.field_aims.Given as goal

abbrev pub invariant-loop-typ : goal.invariant-loop-typ
invariant-loop-typ l =
    l.made ++ due_aims (each_under l.indices l.readings (drop l.typ-index l.types)) ≡ due_aims (each_under l.indices l.readings l.types)
