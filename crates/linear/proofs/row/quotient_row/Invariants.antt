use Rattle.std.proofs.Common.{◌≡◌, take}
use Rattle.linear.specs.Numbers.{divided}
use Rattle.linear.proofs.row.quotient_row.Given as goal

abbrev pub invariant-loop-number : goal.invariant-loop-number
invariant-loop-number l = l.coefficients ≡ divided l.by (take l.number-index l.number-items)
