use Rattle.std.proofs.Common.{◌≡◌, drop, map}
use Rattle.std.specs.List.{fold}
use Rattle.sail_types.specs.Sums.{atom_of}
use Rattle.linear.specs.Choices.{with_atom, atoms_of}
use Rattle.linear.proofs.variables.push_atoms.Given as goal

abbrev pub invariant-loop-term : goal.invariant-loop-term
invariant-loop-term l = fold with_atom l.atoms (map atom_of (drop l.term-index l.term-items)) ≡ fold with_atom l.fn.atoms (atoms_of l.number)
