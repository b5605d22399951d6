use Rattle.std.proofs.Common.{◌≡◌, drop, map}
use Rattle.std.specs.List.{list_any}
use Rattle.size_notes.specs.Written.{term_names_bound}
use Rattle.size_notes.proofs.written.+names_bound.Given as goal

-- the rest decides
abbrev pub invariant-any_names_bound-loop-term : goal.invariant-any_names_bound-loop-term
invariant-any_names_bound-loop-term l =
    list_any (λ t. t) (map (term_names_bound l.depth) (drop l.term-index l.terms)) ≡ list_any (λ t. t) (map (term_names_bound l.depth) l.terms)
