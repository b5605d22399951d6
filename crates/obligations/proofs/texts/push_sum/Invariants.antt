use Rattle.std.proofs.Common.{◌≡◌, ◌++◌, drop}
use Rattle.obligations.specs.Texts.{form_terms, sum_text}
use Rattle.obligations.proofs.Printed.{sum_rest}
use Rattle.obligations.proofs.texts.push_sum.Given as goal

abbrev pub invariant-loop-place : goal.invariant-loop-place
invariant-loop-place l =
    l.out.items ++ sum_rest l.first (form_terms (drop l.place l.coefficients) (drop l.place l.names))
    ≡ l.fn.out.items ++ sum_text (form_terms l.coefficients l.names)
