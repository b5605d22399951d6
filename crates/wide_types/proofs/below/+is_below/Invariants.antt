use Rattle.std.proofs.Common.{◌≡◌, drop, map}
use Rattle.std.specs.List.{list_all}
use Rattle.wide_types.specs.Widening.{is_term_below}
use Rattle.wide_types.proofs.below.+is_below.Given as goal

-- the rest decides
abbrev pub invariant-are_terms_below-loop-term : goal.invariant-are_terms_below-loop-term
invariant-are_terms_below-loop-term l =
    list_all (λ is. is) (map (is_term_below l.variable) (drop l.term-index l.terms)) ≡ list_all (λ is. is) (map (is_term_below l.variable) l.terms)
