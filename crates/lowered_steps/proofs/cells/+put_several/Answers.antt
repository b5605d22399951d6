use Rattle.std.proofs.Common.{◌∙◌, ◌+◌, sym, ap}
use Rattle.lowered_steps.specs.Cells.{cell_in}
use Rattle.lowered_steps.proofs.Celled.{several_more, several_none, several_other}
use Rattle.lowered_steps.proofs.Lists.{first_of, others}
use Rattle.lowered_steps.proofs.cells.+put_several.Goals as goal

pub returns-in-empty : goal.returns-in-empty
returns-in-empty t c =
    several_none c.args.setting.now c.args.coding.now c.args.targets.now c.args.at c.args.indexes c.args.stand.now c.args.typ.now c.in-empty.len_below

pub returns-in-None : goal.returns-in-None
returns-in-None t c =
    several_other c.put_several.result c.args.setting.now c.args.coding.now c.put_several.new.coding c.args.targets.now (others c.args.targets.now)
    c.first-item.result c.args.at c.args.indexes c.args.stand.now c.args.typ.now
    (first_of c.args.targets.now c.first-item.result c.in-len1-up.len_at_least c.first-item.is) (sym c.cell_of.ensures ∙ ap cell_in c.in-None.is)
    c.put_several.ensures

pub returns-in_ok-more-in-Some : goal.returns-in_ok-more-in-Some
returns-in_ok-more-in-Some t c =
    several_more c.put_several-in-Some.result c.args.setting.now c.args.coding.now c.put_several-in-Some.new.coding c.args.targets.now
    (others c.args.targets.now) c.first-item.result c.in-Some.cell c.args.at c.in_ok-next-in-Some.next c.args.indexes c.in_ok-more-in-Some.more
    c.in_ok-place-in-Some.place c.args.stand.now c.args.typ.now c.put_component.new.coding c.put_cell.new.coding
    (first_of c.args.targets.now c.first-item.result c.in-len1-up.len_at_least c.first-item.is) (sym c.cell_of.ensures ∙ ap cell_in c.in-Some.is)
    c.in_ok-place-in-Some.ensures c.in_ok-next-in-Some.ensures (c.in_ok-more-in-Some.ensures ∙ ap (λ k. c.args.indexes + k) c.in_ok-takes-in-Some.ensures)
    c.in_ok-put_component-in-Some.ensures c.in_ok-put_cell-in-Some.ensures c.put_several-in-Some.ensures
