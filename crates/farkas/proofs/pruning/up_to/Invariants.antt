use Rattle.std.proofs.Common.{◌≡◌}
use Rattle.farkas.specs.Pruning.{up_to}
use Rattle.farkas.proofs.pruning.up_to.Given as goal

abbrev pub invariant-loop-number : goal.invariant-loop-number
invariant-loop-number l = l.numbers ≡ up_to l.number
