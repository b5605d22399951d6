use Rattle.std.proofs.Common.{◌≡◌, take}
use Rattle.jib_machine.specs.parts.Unread.{all_needs}
use Rattle.jib_machine.proofs.zeros.needs_of_all.Given as goal

abbrev pub invariant-loop-function : goal.invariant-loop-function
invariant-loop-function l = l.needs ≡ all_needs (take l.function-index l.functions)
