use Rattle.std.proofs.Common.{refl}
use Rattle.lowered_pieces.proofs.Emitting.{emits_labels}
use Rattle.lowered_pieces.proofs.coding.Coding.take_labels.Goals as goal

pub returns-in-Some-clause-taken : goal.returns-in-Some-clause-taken
returns-in-Some-clause-taken c = emits_labels _ _ c.args.count refl refl c.in-Some.ensures.1
