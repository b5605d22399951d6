use Rattle.std.proofs.Common.{◌≡◌, drop, map}
use Rattle.size_values.specs.Numbers.{first_of, free_in_term, meant}
use Rattle.size_values.proofs.numbers.+free.Given as goal

abbrev pub invariant-free_in_terms-loop-term : goal.invariant-free_in_terms-loop-term
invariant-free_in_terms-loop-term l =
    first_of (map (free_in_term (meant l.variables)) (drop l.term-index l.terms)) ≡ first_of (map (free_in_term (meant l.variables)) l.terms)
