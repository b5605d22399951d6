use Rattle.std.proofs.Common.{◌≡◌, drop, map}
use Rattle.sail_types.specs.Sums.{plus_each, became, zero_num}
use Rattle.sail_types.specs.Replacing.{number_by}
use Rattle.sail_types.proofs.substitution.+substitute.Given as goal

abbrev pub invariant-replace_in_terms-loop-term : goal.invariant-replace_in_terms-loop-term
invariant-replace_in_terms-loop-term l =
    plus_each (map (became (number_by l.by)) (drop l.term-index l.terms)) l.sum ≡ plus_each (map (became (number_by l.by)) l.terms) zero_num
