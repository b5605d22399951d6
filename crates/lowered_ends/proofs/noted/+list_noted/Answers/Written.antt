-- Answers: what is written by an assignment.
use Rattle.std.proofs.Common.{sym, ap, arith}
use Rattle.lowered_ends.proofs.Notes.{noted_as, noted_none, noted_then, noted_three}
use Rattle.lowered_ends.specs.Noted.{assigned_notes}
use Rattle.lowered_ends.specs.declared.targets.Spot.{Spot}
use Rattle.lowered_ends.proofs.noted.+list_noted.Goals as goal

pub list_assigned-returns-in-Other : goal.list_assigned-returns-in-Other
list_assigned-returns-in-Other t c =
    let setting = c.args.setting.now in let around = c.args.around.now in
    λ name. noted_none _ _ (ap (λ (sp : Spot). assigned_notes setting around name sp c.args.parts.now) (sym c.in-Other.is))

pub list_assigned-returns-in_ok-list_all-in-One : goal.list_assigned-returns-in_ok-list_all-in-One
list_assigned-returns-in_ok-list_all-in-One t c =
    let setting = c.args.setting.now in let around = c.args.around.now in
    λ name. noted_as c.list_cell.result _ _ _ _ (ap (λ (sp : Spot). assigned_notes setting around name sp c.args.parts.now) (sym c.in-One.is))
    (noted_then c.list_cell.result _ _ _ _ _ (c.in_ok-list_all-in-One.ensures name) c.list_cell.ensures)

pub list_assigned-list_all-requires : goal.list_assigned-list_all-requires
list_assigned-list_all-requires t c = (omega (arith, c.decreases), tt)

pub list_assigned-returns-in_ok-list_all-in-Several : goal.list_assigned-returns-in_ok-list_all-in-Several
list_assigned-returns-in_ok-list_all-in-Several t c =
    let setting = c.args.setting.now in let around = c.args.around.now in
    λ name. noted_as c.list_cells.result _ _ _ _ (ap (λ (sp : Spot). assigned_notes setting around name sp c.args.parts.now) (sym c.in-Several.is))
    (noted_then c.list_cells.result _ _ _ _ _ (c.in_ok-list_all-in-Several.ensures name) c.list_cells.ensures)

pub list_assigned-list_all-requires-in-Several : goal.list_assigned-list_all-requires-in-Several
list_assigned-list_all-requires-in-Several t c = (omega (arith, c.decreases), tt)

pub list_assigned-returns-in_ok-list_own-in-Called : goal.list_assigned-returns-in_ok-list_own-in-Called
list_assigned-returns-in_ok-list_own-in-Called t c =
    let setting = c.args.setting.now in let around = c.args.around.now in
    λ name. noted_as c.list_own-in-Called.result _ _ _ _ (ap (λ (sp : Spot). assigned_notes setting around name sp c.args.parts.now) (sym c.in-Called.is))
    (noted_three c.list_own-in-Called.result _ _ _ _ _ _ _ (c.in_ok-list_all-in-Called.ensures name) c.in_ok-list_own-in-Called.ensures
    c.list_own-in-Called.ensures)

pub list_assigned-list_all-requires-in-Called : goal.list_assigned-list_all-requires-in-Called
list_assigned-list_all-requires-in-Called t c = (omega (arith, c.decreases), tt)
