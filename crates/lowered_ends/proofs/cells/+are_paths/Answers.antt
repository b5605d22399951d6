use Rattle.std.proofs.Common.{◌∙◌, List, sym, ap, ◌&&◌}
use Rattle.lowered_ends.proofs.Lists.{first_of, none_of}
use Rattle.lowered_ends.specs.Cells.{paths_ok}
use Rattle.sized_nodes.specs.declared.trees.Case.{Case}
use Rattle.lowered_ends.proofs.cells.+are_paths.Goals as goal

pub returns-in-empty : goal.returns-in-empty
returns-in-empty t c =
    ap (λ (cs : List Case). paths_ok c.args.setting.now c.args.suffixes.now cs) (sym (none_of c.args.cases.now c.in-empty.len_below))

pub returns-in_ok-others-in-len1-up : goal.returns-in_ok-others-in-len1-up
returns-in_ok-others-in-len1-up t c =
    c.both.ensures
    ∙ (λ i. c.in_ok-one-in-len1-up.ensures i && c.in_ok-others-in-len1-up.ensures i)
    ∙ ap (λ (cs : List Case). paths_ok c.args.setting.now c.args.suffixes.now cs)
    (sym (first_of c.args.cases.now c.first-item.result c.in-len1-up.len_at_least c.first-item.is))
