use Rattle.std.proofs.Common.{◌∙◌, ap, sym}
use Rattle.lowered_pieces.specs.Nodes.{is_empty}
use Rattle.lowered_ends.proofs.Lists.{none_of}
use Rattle.lowered_ends.proofs.Reading.{some_unread}
use Rattle.lowered_ends.proofs.told.is_unread.Goals as goal

pub returns-in-empty : goal.returns-in-empty
returns-in-empty c = ap is_empty (sym (none_of c.reads_as.result.now c.in-empty.len_below) ∙ c.reads_as.ensures)

pub returns-in-len1-up : goal.returns-in-len1-up
returns-in-len1-up c = some_unread c.reads_as.result.now c.in-len1-up.len_at_least ∙ ap is_empty c.reads_as.ensures
