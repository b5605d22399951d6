use Rattle.std.proofs.Common.{◌≡◌, drop, ◌++◌}
use Rattle.sail_types.proofs.sums.+copy_num.Given as goal

abbrev pub invariant-copy_terms-loop-term : goal.invariant-copy_terms-loop-term
invariant-copy_terms-loop-term l = l.copies ++ drop l.term-index l.terms ≡ l.terms
