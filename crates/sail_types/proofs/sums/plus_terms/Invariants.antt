use Rattle.std.proofs.Common.{◌≡◌, drop}
use Rattle.sail_types.specs.Sums.{plus_terms as plus_terms_of}
use Rattle.sail_types.proofs.sums.plus_terms.Given as goal

abbrev pub invariant-loop-term : goal.invariant-loop-term
invariant-loop-term l = plus_terms_of l.times (drop l.term-index l.from) l.terms.items ≡ plus_terms_of l.times l.from l.initial.terms.items
