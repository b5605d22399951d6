use Rattle.std.proofs.Common.{◌≡◌, drop}
use Rattle.jib.specs.Operands.{each}
use Rattle.jib.specs.Valid.{instruction_right}
use Rattle.jib.proofs.validity.code_is_right.Given as goal

abbrev pub invariant-loop-place : goal.invariant-loop-place
invariant-loop-place l = each (instruction_right l.program l.function l.number) 0 l.function.code
    ≡ each (instruction_right l.program l.function l.number) l.place (drop l.place l.function.code)
