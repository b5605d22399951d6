use Rattle.std.proofs.Common.{sym, ap}
use Rattle.lowered_steps.proofs.Lists.{head_of, none_of, others}
use Rattle.lowered_typed.proofs.More.{ways_more}
use Rattle.lowered_typed.specs.Judged as judged
use Rattle.lowered_typed.proofs.kinds.+are_ways_asked.Goals as goal

pub returns-in-empty : goal.returns-in-empty
returns-in-empty t c = ap (judged.ways_asked c.args.judge.now) (sym (none_of c.args.suffixes.now c.in-empty.len_below))

pub returns-in_ok-other-in-len1-up : goal.returns-in_ok-other-in-len1-up
returns-in_ok-other-in-len1-up t c =
    ways_more c.args.judge.now _ c.args.suffixes.now (others c.args.suffixes.now) _ _ _
    (head_of c.args.suffixes.now _ c.in-len1-up.len_at_least) c.both-all.ensures c.in_ok-one-in-len1-up.ensures c.in_ok-other-in-len1-up.ensures
