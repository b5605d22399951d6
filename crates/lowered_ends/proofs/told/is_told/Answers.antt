use Rattle.std.proofs.Common.{◌∙◌, ap, sym}
use Rattle.lowered_pieces.specs.Writes.{is_read}
use Rattle.lowered_ends.proofs.Lists.{none_of}
use Rattle.lowered_ends.proofs.Reading.{some_told}
use Rattle.lowered_ends.proofs.told.is_told.Goals as goal

pub returns-in-empty : goal.returns-in-empty
returns-in-empty c = ap is_read (sym (none_of c.reads_as.result.now c.in-empty.len_below) ∙ c.reads_as.ensures)

pub returns-in-len1-up : goal.returns-in-len1-up
returns-in-len1-up c = some_told c.reads_as.result.now c.in-len1-up.len_at_least ∙ ap is_read c.reads_as.ensures
