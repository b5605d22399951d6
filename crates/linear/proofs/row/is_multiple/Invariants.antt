use Rattle.std.proofs.Common.{◌≡◌, drop}
use Rattle.linear.specs.Numbers.{are_multiples}
use Rattle.linear.proofs.row.is_multiple.Given as goal

abbrev pub invariant-loop-number : goal.invariant-loop-number
invariant-loop-number l = are_multiples l.of (drop l.number-index l.number-items) ≡ are_multiples l.of l.row.coefficients
