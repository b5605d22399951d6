use Rattle.std.proofs.Common.{◌∙◌, ◌&&◌}
use Rattle.lowered_ends.proofs.Paths.{cell_part, cell_whole}
use Rattle.lowered_ends.proofs.cells.is_cell.Goals as goal

pub returns-in-empty : goal.returns-in-empty
returns-in-empty c = c.is_holder-holder.ensures ∙ cell_whole c.args.setting.now c.args.cell.now c.in-empty.len_below

pub returns-in_ok-part-in-len1-up : goal.returns-in_ok-part-in-len1-up
returns-in_ok-part-in-len1-up c =
    c.both.ensures
    ∙ (λ i. c.is_holder-holder.ensures i && c.in_ok-part-in-len1-up.ensures i)
    ∙ cell_part c.args.setting.now c.args.cell.now c.in-len1-up.len_at_least
