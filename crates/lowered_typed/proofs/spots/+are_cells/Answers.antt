use Rattle.std.proofs.Common.{◌∙◌, ◌&&◌, List, sym, ap}
use Rattle.sail_core.specs.declared.targets.Target.{Target}
use Rattle.lowered_steps.specs.Cells.{aim_of, cell_in, cells_of}
use Rattle.lowered_steps.proofs.Lists.{first_of, none_of, others}
use Rattle.lowered_typed.proofs.Written.{cells_more, cells_other}
use Rattle.lowered_typed.specs.Here as here
use Rattle.lowered_typed.proofs.spots.+are_cells.Goals as goal

pub returns-in-empty : goal.returns-in-empty
returns-in-empty t c =
    ap (λ (ts : List Target). here.cells_right c.args.judge.now (cells_of ts)) (sym (none_of c.args.targets.now c.in-empty.len_below))

pub returns-in_ok-one-in-Some : goal.returns-in_ok-one-in-Some
returns-in_ok-one-in-Some t c =
    c.both-all.ensures
    ∙ (λ i. c.in_ok-one-in-Some.ensures i && c.in_ok-others-in-len1-up.ensures i)
    ∙ cells_more c.args.judge.now c.args.targets.now (others c.args.targets.now) c.first-item.result (aim_of c.in-Some.cell)
    (first_of c.args.targets.now c.first-item.result c.in-len1-up.len_at_least c.first-item.is) (sym c.cell_of.ensures ∙ ap cell_in c.in-Some.is)

pub returns-in-None : goal.returns-in-None
returns-in-None t c =
    c.in_ok-others-in-len1-up.ensures
    ∙ cells_other c.args.judge.now c.args.targets.now (others c.args.targets.now) c.first-item.result
    (first_of c.args.targets.now c.first-item.result c.in-len1-up.len_at_least c.first-item.is) (sym c.cell_of.ensures ∙ ap cell_in c.in-None.is)
