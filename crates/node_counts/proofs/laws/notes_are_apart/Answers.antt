use Rattle.node_counts.proofs.Apart.{notes_are_apart}
use Rattle.node_counts.proofs.laws.notes_are_apart.Goals as goal

pub returns : goal.returns
returns c = notes_are_apart
