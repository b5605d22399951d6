use Rattle.std.proofs.Common.{◌∙◌, ◌≤◌, List, length, sym, ap, subst}
use Rattle.lowered_ends.proofs.Known.{fixed_many, fixed_one, fixed_picked}
use Rattle.lowered_ends.proofs.Lists.{none_of, one_of}
use Rattle.lowered_pieces.specs.Forms.{cases_ends}
use Rattle.lowered_pieces.specs.Mapped.{fixed_end}
use Rattle.size_values.specs.declared.constants.Picked.{Picked}
use Rattle.sized_nodes.specs.declared.trees.Case.{Case}
use Rattle.lowered_ends.proofs.ends.fixed_case.Goals as goal

pub returns-in-empty : goal.returns-in-empty
returns-in-empty c =
    ap (λ (cs : List Case). fixed_end (cases_ends cs)) (sym (none_of c.args.cases.now c.in-empty.len_below))

pub returns-in-empty-as_slice : goal.returns-in-empty-as_slice
returns-in-empty-as_slice c =
    fixed_one c.args.cases.now c.only-item.result (one_of c.args.cases.now c.only-item.result c.in-len1.len_at_least c.in-len1.len_below c.only-item.is)
    (sym c.as_slice.ensures ∙ none_of c.as_slice.result.now c.in-empty-as_slice.len_below)

pub returns-in_default : goal.returns-in_default
returns-in_default c =
    fixed_picked c.args.cases.now c.only-item.result (one_of c.args.cases.now c.only-item.result c.in-len1.len_at_least c.in-len1.len_below c.only-item.is)
    (subst (λ (ps : List Picked). 1 ≤ length ps) c.as_slice.ensures c.in_default.len_at_least)

pub returns-in-len2-up : goal.returns-in-len2-up
returns-in-len2-up c =
    fixed_many c.args.cases.now c.in-len2-up.len_at_least
