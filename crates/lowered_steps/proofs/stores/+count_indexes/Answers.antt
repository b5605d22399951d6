use Rattle.std.proofs.Common.{sym, ap}
use Rattle.lowered_pieces.specs.Writes.{takes_in}
use Rattle.lowered_steps.proofs.Lists.{head_of, none_of, others}
use Rattle.lowered_steps.proofs.Storing.{indexes_more}
use Rattle.lowered_steps.proofs.stores.+count_indexes.Goals as goal

pub returns-in-empty : goal.returns-in-empty
returns-in-empty t c = ap takes_in (sym (none_of c.args.suffixes.now c.in-empty.len_below))

pub returns-in_ok-behind-in-len1-up : goal.returns-in_ok-behind-in-len1-up
returns-in_ok-behind-in-len1-up t c =
    indexes_more c.further.result _ (others c.args.suffixes.now) c.args.suffixes.now c.takes.result c.in_ok-behind-in-len1-up.behind
    (head_of c.args.suffixes.now _ c.in-len1-up.len_at_least) c.takes.ensures c.in_ok-behind-in-len1-up.ensures c.further.ensures
