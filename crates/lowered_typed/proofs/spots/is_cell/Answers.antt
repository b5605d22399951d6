use Rattle.std.proofs.Common.{◌∙◌, ◌&&◌, List, ap}
use Rattle.sized_nodes.specs.declared.trees.Case.{Case}
use Rattle.lowered_steps.specs.Cells.{holder_in}
use Rattle.lowered_typed.proofs.Written.{cell_part, cell_whole}
use Rattle.lowered_typed.specs.Here as here
use Rattle.lowered_typed.proofs.spots.is_cell.Goals as goal

pub returns-in_ok-other-in-empty : goal.returns-in_ok-other-in-empty
returns-in_ok-other-in-empty c =
    c.both-all.ensures
    ∙ (λ i. c.in_ok-one.ensures i && (c.in_ok-other-in-empty.ensures
    ∙ ap (λ (cs : List Case). here.holder_right c.args.judge.now (holder_in c.args.cell.now.holder) cs) c.cases.ensures) i)
    ∙ cell_whole c.args.judge.now c.args.cell.now c.in-empty.len_below

pub returns-in_ok-other-in-len1-up : goal.returns-in_ok-other-in-len1-up
returns-in_ok-other-in-len1-up c =
    c.both-all-in-len1-up.ensures
    ∙ (λ i. c.in_ok-one.ensures i && c.in_ok-other-in-len1-up.ensures i)
    ∙ cell_part c.args.judge.now c.args.cell.now c.in-len1-up.len_at_least
