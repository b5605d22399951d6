use Rattle.std.proofs.Common.{◌∙◌}
use Rattle.lowered_steps.proofs.Aimed.{whole_none, whole_some}
use Rattle.lowered_steps.proofs.cells.whole_of.Goals as goal

pub returns-in-empty : goal.returns-in-empty
returns-in-empty c = c.alone_of.ensures ∙ whole_none c.args.target.now c.as_slice.result.now c.as_slice.ensures c.in-empty.len_below

pub returns-in-len1-up : goal.returns-in-len1-up
returns-in-len1-up c = whole_some c.args.target.now c.as_slice.result.now c.as_slice.ensures c.in-len1-up.len_at_least
