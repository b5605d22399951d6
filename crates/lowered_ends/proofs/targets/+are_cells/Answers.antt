use Rattle.std.proofs.Common.{◌∙◌, sym, ap}
use Rattle.lowered_steps.specs.Cells.{cell_in}
use Rattle.lowered_ends.proofs.Aiming.{cells_first, cells_none, cells_not}
use Rattle.lowered_ends.proofs.Lists.{first_of, others}
use Rattle.lowered_ends.proofs.targets.+are_cells.Goals as goal

pub returns-in-empty : goal.returns-in-empty
returns-in-empty t c = cells_none c.args.targets.now c.in-empty.len_below

pub returns-in-Some : goal.returns-in-Some
returns-in-Some t c =
    cells_first c.args.targets.now (others c.args.targets.now) c.first-item.result _ c.are_cells.result
    (first_of c.args.targets.now c.first-item.result c.in-len1-up.len_at_least c.first-item.is) (sym c.cell_of.ensures ∙ ap cell_in c.in-Some.is)
    c.are_cells.ensures

pub returns-in-None : goal.returns-in-None
returns-in-None t c =
    cells_not c.args.targets.now (others c.args.targets.now) c.first-item.result
    (first_of c.args.targets.now c.first-item.result c.in-len1-up.len_at_least c.first-item.is) (sym c.cell_of.ensures ∙ ap cell_in c.in-None.is)
