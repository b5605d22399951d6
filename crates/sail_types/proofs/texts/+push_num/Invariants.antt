use Rattle.std.proofs.Common.{◌≡◌, drop, map, ◌++◌}
use Rattle.std.specs.Prelude.{codes}
use Rattle.sail_types.specs.Texts.{term_text, rest_joined, joined}
use Rattle.sail_types.proofs.texts.+push_num.Given as goal

abbrev pub invariant-push_terms-loop-term : goal.invariant-push_terms-loop-term
invariant-push_terms-loop-term l =
    l.out.items ++ rest_joined l.first (codes " + ") (map (term_text l.names) (drop l.term-index l.terms))
    ≡ l.initial.out.items ++ joined (codes " + ") (map (term_text l.names) l.terms)
