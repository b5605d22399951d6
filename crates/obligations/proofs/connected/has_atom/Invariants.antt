use Rattle.std.proofs.Common.{◌≡◌, drop}
use Rattle.std.specs.List.{list_any}
use Rattle.sail_types.specs.Sums.{eq_atom}
use Rattle.obligations.proofs.connected.has_atom.Given as goal

abbrev pub invariant-loop-other : goal.invariant-loop-other
invariant-loop-other l = list_any (eq_atom l.atom) (drop l.other-index l.atoms) ≡ list_any (eq_atom l.atom) l.atoms
