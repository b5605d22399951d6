use Rattle.std.proofs.Common.{◌≡◌, take}
use Rattle.jib_machine.specs.parts.Tables.{tables_for}
use Rattle.jib_machine.proofs.made.tables_of.Given as goal

abbrev pub invariant-loop-function : goal.invariant-loop-function
invariant-loop-function l = l.tables ≡ tables_for (take l.function-index l.functions)
