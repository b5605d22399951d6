use Rattle.std.proofs.Common.{sym, ap}
use Rattle.lowered_pieces.specs.Writes.{is_said}
use Rattle.lowered_ends.proofs.cells.is_way_said.Goals as goal

pub returns-in-Field : goal.returns-in-Field
returns-in-Field c = ap is_said (sym c.in-Field.is)

pub returns-in-Item : goal.returns-in-Item
returns-in-Item c = ap is_said (sym c.in-Item.is)

pub returns-in-Slice : goal.returns-in-Slice
returns-in-Slice c = ap is_said (sym c.in-Slice.is)
