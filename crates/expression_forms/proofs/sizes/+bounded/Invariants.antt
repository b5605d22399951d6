use Rattle.std.proofs.Common.{◌≡◌, ◌+◌, ◌++◌, drop, map}
use Rattle.expression_forms.specs.Sizes.{more_bounded, with_owed}
use Rattle.expression_forms.proofs.NumberMasses.{atom_mass, num_mass, term_mass, term_masses}
use Rattle.expression_forms.proofs.sizes.+bounded.Given as goal

abbrev pub invariant-more_bounded-loop-term : goal.invariant-more_bounded-loop-term
invariant-more_bounded-loop-term l =
    l.made ++ more_bounded l.indices l.total (map (with_owed l.indices) (drop l.term-index l.terms)) l.constant
    ≡ more_bounded l.indices l.initial.total (map (with_owed l.indices) l.terms) l.constant

-- by what there is of a number, and by the order of the calls between two numbers
abbrev pub decreases-bounded : goal.decreases-bounded
decreases-bounded l = num_mass l.number.now

abbrev pub decreases-terms_bounded : goal.decreases-terms_bounded
decreases-terms_bounded l = term_masses l.terms.now + 3

abbrev pub decreases-more_bounded : goal.decreases-more_bounded
decreases-more_bounded l = term_masses l.terms.now + 2

abbrev pub decreases-term_owed : goal.decreases-term_owed
decreases-term_owed l = term_mass l.term.now + 1

abbrev pub decreases-atom_bounded : goal.decreases-atom_bounded
decreases-atom_bounded l = atom_mass l.atom.now
