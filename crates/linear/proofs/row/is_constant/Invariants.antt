use Rattle.std.proofs.Common.{◌≡◌, drop}
use Rattle.std.specs.List.{list_all}
use Rattle.linear.specs.Numbers.{is_zero}
use Rattle.linear.proofs.row.is_constant.Given as goal

abbrev pub invariant-loop-number : goal.invariant-loop-number
invariant-loop-number l = list_all is_zero (drop l.number-index l.number-items) ≡ list_all is_zero l.row.coefficients
