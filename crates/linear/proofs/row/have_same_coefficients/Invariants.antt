use Rattle.std.proofs.Common.{◌≡◌, drop}
use Rattle.linear.specs.Rows.{are_same}
use Rattle.linear.proofs.row.have_same_coefficients.Given as goal

abbrev pub invariant-loop-place : goal.invariant-loop-place
invariant-loop-place l = are_same (drop l.place l.first.coefficients) (drop l.place l.second.coefficients) ≡ are_same l.first.coefficients
    l.second.coefficients
