use Rattle.std.proofs.Common.{◌∙◌, sym}
use Rattle.expression_steps.proofs.LateParts.{none_there, some_there}
use Rattle.expression_steps.proofs.late.has_no_way.Goals as goal

pub returns-in-empty : goal.returns-in-empty
returns-in-empty c = sym (none_there c.args.suffixes.now c.args.count c.in-empty.len_below)

pub returns-in_default : goal.returns-in_default
returns-in_default c = c.is_short.ensures ∙ sym (some_there c.args.suffixes.now c.args.count c.in_default.len_at_least)
