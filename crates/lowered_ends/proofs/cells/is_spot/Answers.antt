use Rattle.std.proofs.Common.{◌∙◌, ◌+◌, List, sym, ap, ◌&&◌}
use Rattle.std.specs.Prelude.{nat_eq, slice_get}
use Rattle.sized_nodes.specs.declared.trees.Lead.{Lead}
use Rattle.lowered_pieces.specs.Nodes.{function_in}
use Rattle.lowered_pieces.specs.Tables.{leads_to}
use Rattle.lowered_pieces.specs.Writes.{spot_lowered}
use Rattle.lowered_steps.specs.Cells.{aim_of, cells_of}
use Rattle.lowered_steps.specs.Setting.{tables_for}
use Rattle.lowered_ends.proofs.Paths.{cell_there, cells_there}
use Rattle.lowered_ends.specs.Targets.{spot_in}
use Rattle.lowered_ends.specs.declared.targets.Spot.{Spot}
use Rattle.lowered_ends.proofs.cells.is_spot.Goals as goal

pub returns-in-Other : goal.returns-in-Other
returns-in-Other c =
    let setting = c.args.setting.now in let around = c.args.around.now in
    ap (λ (sp : Spot). spot_lowered setting.types.now (tables_for setting around.instances.now) (spot_in sp) c.args.parts) (sym c.in-Other.is)

pub returns-in_ok-fits-in-One : goal.returns-in_ok-fits-in-One
returns-in_ok-fits-in-One c =
    let setting = c.args.setting.now in let around = c.args.around.now in c.both.ensures
    ∙ (λ i. nat_eq c.args.parts (c.in_ok-takes-in-One.ensures i + 1)
    && (c.in_ok-fits-in-One.ensures ∙ cell_there setting around.instances.now (aim_of c.in-One.cell)) i)
    ∙ ap (λ (sp : Spot). spot_lowered setting.types.now (tables_for setting around.instances.now) (spot_in sp) c.args.parts) (sym c.in-One.is)

pub returns-in_ok-fit-in-Several : goal.returns-in_ok-fit-in-Several
returns-in_ok-fit-in-Several c =
    let setting = c.args.setting.now in let around = c.args.around.now in c.both-in-Several.ensures
    ∙ (λ i. nat_eq c.args.parts (c.in_ok-takes-in-Several.ensures i + 1)
    && (c.in_ok-fit-in-Several.ensures ∙ cells_there setting around.instances.now (cells_of c.in-Several.targets.now)) i)
    ∙ ap (λ (sp : Spot). spot_lowered setting.types.now (tables_for setting around.instances.now) (spot_in sp) c.args.parts) (sym c.in-Several.is)

pub returns-in-Called : goal.returns-in-Called
returns-in-Called c =
    let setting = c.args.setting.now in let around = c.args.around.now in c.both-in-Called.ensures
    ∙ (λ i. nat_eq c.args.parts (c.in-Called.arguments + 1)
    && (c.lead_to-leads.ensures
    ∙ ap (λ (ls : List Lead). leads_to (λ p. function_in (slice_get around.instances.now p)) c.in-Called.function ls) c.leads.ensures) i)
    ∙ ap (λ (sp : Spot). spot_lowered setting.types.now (tables_for setting around.instances.now) (spot_in sp) c.args.parts) (sym c.in-Called.is)
