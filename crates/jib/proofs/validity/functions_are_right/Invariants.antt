use Rattle.std.proofs.Common.{◌≡◌, drop}
use Rattle.jib.specs.Operands.{each}
use Rattle.jib.specs.Valid.{function_right}
use Rattle.jib.proofs.validity.functions_are_right.Given as goal

abbrev pub invariant-loop-number : goal.invariant-loop-number
invariant-loop-number l = each (function_right l.program) 0 l.program.functions
    ≡ each (function_right l.program) l.number (drop l.number l.program.functions)
