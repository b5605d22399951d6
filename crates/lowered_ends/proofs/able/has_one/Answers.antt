use Rattle.std.proofs.Common.{List, sym, ap}
use Rattle.lowered_ends.proofs.Known.{many_ends, one_ends}
use Rattle.lowered_ends.proofs.Lists.{none_of}
use Rattle.lowered_pieces.specs.Forms.{cases_ends}
use Rattle.lowered_pieces.specs.Gathered.{is_one}
use Rattle.sized_nodes.specs.declared.trees.Case.{Case}
use Rattle.lowered_ends.proofs.able.has_one.Goals as goal

pub returns-in-empty : goal.returns-in-empty
returns-in-empty c =
    ap (λ (cs : List Case). is_one (cases_ends cs)) (sym (none_of c.args.cases.now c.in-empty.len_below))

pub returns-in-len1 : goal.returns-in-len1
returns-in-len1 c =
    one_ends c.args.cases.now c.in-len1.len_at_least c.in-len1.len_below

pub returns-in-len2-up : goal.returns-in-len2-up
returns-in-len2-up c =
    many_ends c.args.cases.now c.in-len2-up.len_at_least
