use Rattle.std.proofs.Common.{◌≡◌, drop, map}
use Rattle.sail_types.specs.Sums.{atom_of}
use Rattle.linear.specs.Choices.{atoms_of}
use Rattle.obligations.specs.Connected.{shares}
use Rattle.obligations.proofs.connected.has_any.Given as goal

abbrev pub invariant-loop-term : goal.invariant-loop-term
invariant-loop-term l = shares (map atom_of (drop l.term-index l.term-items)) l.atoms ≡ shares (atoms_of l.number) l.atoms
