use Rattle.std.proofs.Common.{◌≡◌, drop, map, pos}
use Rattle.size_values.specs.Numbers.{added, meant, value_of_term}
use Rattle.size_values.proofs.numbers.+value.Given as goal

abbrev pub invariant-sum_of_terms-loop-term : goal.invariant-sum_of_terms-loop-term
invariant-sum_of_terms-loop-term l =
    added l.sum (map (value_of_term (meant l.variables)) (drop l.term-index l.terms)) ≡ added (pos 0) (map (value_of_term (meant l.variables)) l.terms)
