use Rattle.std.proofs.Common.{◌≡◌, drop}
use Rattle.linear.specs.Choices.{with_terms, sign_of}
use Rattle.linear.proofs.choosing.with_terms.Given as goal

abbrev pub invariant-loop-term : goal.invariant-loop-term
invariant-loop-term l = with_terms l.atoms (sign_of l.negative) l.coefficients (drop l.term-index l.terms) ≡ with_terms l.atoms (sign_of l.negative)
    l.fn.first l.terms
