use Rattle.std.proofs.Common.{◌≡◌, drop, map}
use Rattle.obligations.specs.Naming.{any_of, term_has}
use Rattle.obligations.proofs.naming.+number.Given as goal

-- the rest decides
abbrev pub invariant-terms_have-loop-term : goal.invariant-terms_have-loop-term
invariant-terms_have-loop-term l = any_of (map (term_has l.variable) (drop l.term-index l.terms)) ≡ any_of (map (term_has l.variable) l.terms)
