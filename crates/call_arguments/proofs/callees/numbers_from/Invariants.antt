use Rattle.std.proofs.Common.{◌≡◌, ◌++◌, drop}
use Rattle.call_arguments.specs.Callees.{numbers_from}
use Rattle.call_arguments.proofs.callees.numbers_from.Given as goal

abbrev pub invariant-loop-position : goal.invariant-loop-position
invariant-loop-position l =
    l.made ++ numbers_from l.position (drop l.position l.variables) l.types l.arguments ≡ numbers_from 0 l.variables l.types l.arguments
