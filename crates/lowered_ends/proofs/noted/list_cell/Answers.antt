use Rattle.lowered_ends.proofs.Assigning.{cell_alone, cell_with, noted_still}
use Rattle.lowered_ends.proofs.Notes.{noted_as, noted_then}
use Rattle.lowered_ends.proofs.noted.list_cell.Goals as goal

pub returns-in-empty : goal.returns-in-empty
returns-in-empty c = noted_still _ _ _ _ (cell_alone c.args.setting.now c.args.cell.now c.in-empty.len_below) c.in_ok-list_own.ensures

pub returns-in-len1-up : goal.returns-in-len1-up
returns-in-len1-up c =
    noted_as c.list_own-in-len1-up.result _ _ _ _ (cell_with c.args.setting.now c.args.cell.now c.in-len1-up.len_at_least)
    (noted_then c.list_own-in-len1-up.result _ _ _ _ _ c.in_ok-list_own.ensures c.list_own-in-len1-up.ensures)
