use Rattle.std.proofs.Common.{◌≡◌, ◌+◌, ◌++◌, drop, map}
use Rattle.expression_forms.specs.Sizes.{all_owed, through_term}
use Rattle.expression_forms.proofs.NumberMasses.{atom_mass, num_mass, term_mass, term_masses}
use Rattle.expression_forms.proofs.sizes.+through.Given as goal

abbrev pub invariant-all_through-loop-term : goal.invariant-all_through-loop-term
invariant-all_through-loop-term l =
    l.made ++ all_owed (map (through_term l.indices l.numbers) (drop l.term-index l.terms))
    ≡ all_owed (map (through_term l.indices l.numbers) l.terms)

-- by what there is of a number, and by the order of the calls between two numbers
abbrev pub decreases-through : goal.decreases-through
decreases-through l = num_mass l.number.now

abbrev pub decreases-all_through : goal.decreases-all_through
decreases-all_through l = term_masses l.terms.now + 3

abbrev pub decreases-through_term : goal.decreases-through_term
decreases-through_term l = term_mass l.term.now + 1

abbrev pub decreases-through_atom : goal.decreases-through_atom
decreases-through_atom l = atom_mass l.atom.now
