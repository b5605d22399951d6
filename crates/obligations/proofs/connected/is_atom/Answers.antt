use Rattle.linear.proofs.Counts.{is_eq_atom}
use Rattle.obligations.proofs.connected.is_atom.Goals as goal

pub returns : goal.returns
returns c = is_eq_atom _ _ _ c.same_atom.ensures.0 c.same_atom.ensures.1
