use Rattle.std.proofs.Common.{◌≡◌, drop}
use Rattle.std.specs.List.{fold}
use Rattle.linear.specs.Numbers.{gcd}
use Rattle.linear.specs.Rows.{divisor_of}
use Rattle.linear.proofs.row.divisor_of.Given as goal

abbrev pub invariant-loop-number : goal.invariant-loop-number
invariant-loop-number l = fold gcd l.found (drop l.number-index l.number-items) ≡ divisor_of l.row
