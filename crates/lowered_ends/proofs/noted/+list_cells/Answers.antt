use Rattle.std.proofs.Common.{◌∙◌, sym, ap}
use Rattle.lowered_steps.specs.Cells.{aim_of, cell_in}
use Rattle.lowered_ends.proofs.Assigning.{cells_more, cells_none, cells_other}
use Rattle.lowered_ends.proofs.Lists.{first_of, others}
use Rattle.lowered_ends.proofs.Notes.{noted_as, noted_none, noted_then}
use Rattle.lowered_ends.proofs.noted.+list_cells.Goals as goal

pub returns-in-empty : goal.returns-in-empty
returns-in-empty t c = noted_none _ _ (cells_none c.args.setting.now c.args.targets.now c.in-empty.len_below)

pub returns-in_ok-list_cell-in-Some : goal.returns-in_ok-list_cell-in-Some
returns-in_ok-list_cell-in-Some t c =
    noted_as c.list_cells.result _ _ _ _
    (cells_more c.args.setting.now c.args.targets.now (others c.args.targets.now) c.first-item.result (aim_of c.in-Some.cell)
    (first_of c.args.targets.now c.first-item.result c.in-len1-up.len_at_least c.first-item.is) (sym c.cell_of.ensures ∙ ap cell_in c.in-Some.is))
    (noted_then c.list_cells.result _ _ _ _ _ c.in_ok-list_cell-in-Some.ensures c.list_cells.ensures)

pub returns-in-None : goal.returns-in-None
returns-in-None t c =
    noted_as c.list_cells-in-None.result _ _ _ _
    (cells_other c.args.setting.now c.args.targets.now (others c.args.targets.now) c.first-item.result
    (first_of c.args.targets.now c.first-item.result c.in-len1-up.len_at_least c.first-item.is) (sym c.cell_of.ensures ∙ ap cell_in c.in-None.is))
    c.list_cells-in-None.ensures
