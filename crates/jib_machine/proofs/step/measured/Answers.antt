use Rattle.std.proofs.Common.{rules}
use Rattle.jib_machine.proofs.step.measured.Goals as goal

pub returns-else-z-before : goal.returns-else-z-before
returns-else-z-before c = λ m slots s k xs. (xs, search rules)
