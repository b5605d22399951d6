use Rattle.std.proofs.Common.{List, sym, ap}
use Rattle.lowered_ends.proofs.Known.{some_ends}
use Rattle.lowered_ends.proofs.Lists.{none_of}
use Rattle.lowered_pieces.specs.Forms.{cases_ends, has_ends}
use Rattle.sized_nodes.specs.declared.trees.Case.{Case}
use Rattle.lowered_ends.proofs.able.has_cases.Goals as goal

pub returns-in-empty : goal.returns-in-empty
returns-in-empty c =
    ap (λ (cs : List Case). has_ends (cases_ends cs)) (sym (none_of c.args.cases.now c.in-empty.len_below))

pub returns-in_default : goal.returns-in_default
returns-in_default c =
    some_ends c.args.cases.now c.in_default.len_at_least
