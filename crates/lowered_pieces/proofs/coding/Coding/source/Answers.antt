use Rattle.lowered_pieces.proofs.Emitting.{sourced_one}
use Rattle.lowered_pieces.proofs.coding.Coding.source.Goals as goal

pub returns-clause-read : goal.returns-clause-read
returns-clause-read c = sourced_one _ c.args.place c.args.typ c.in_ok-slot.slot c.in_ok-slot.ensures.number c.in_ok-slot.ensures.there
