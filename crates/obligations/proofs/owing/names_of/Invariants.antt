use Rattle.std.proofs.Common.{◌≡◌, take, map}
use Rattle.sail_types.specs.Texts.{atom_text}
use Rattle.obligations.proofs.owing.names_of.Given as goal

abbrev pub invariant-loop-atom : goal.invariant-loop-atom
invariant-loop-atom l = l.made ≡ map (atom_text l.names) (take l.atom-index l.atoms)
