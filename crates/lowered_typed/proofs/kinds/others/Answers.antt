use Rattle.std.proofs.Common.{sym, ap}
use Rattle.lowered_steps.proofs.Lists.{none_of}
use Rattle.lowered_typed.proofs.More.{behind_same}
use Rattle.lowered_typed.specs.Judged as judged
use Rattle.lowered_typed.proofs.kinds.others.Goals as goal

pub returns-in-empty : goal.returns-in-empty
returns-in-empty c = ap judged.behind (sym (none_of c.args.parts.now c.in-empty.len_below))

pub returns-in-len1-up : goal.returns-in-len1-up
returns-in-len1-up c = behind_same c.args.parts.now c.in-len1-up.len_at_least
