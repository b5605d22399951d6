use Rattle.std.proofs.lemmas.Bool.Decides.{same_from_decides}
use Rattle.sail_types.proofs.EqualAtoms.{eq_atom-Decides}
use Rattle.sail_types.proofs.sums.is_atom.Goals as goal

pub returns : goal.returns
returns c = same_from_decides _ _ c.same_atom.ensures (eq_atom-Decides _ _)
