use Rattle.std.proofs.Common.{◌≡◌, ◌∙◌, ℕ, List, length, sym, ap}
use Rattle.std.proofs.lemmas.Result.{IfOk-weaker}
use Rattle.sail_core.specs.declared.targets.Target.{Target}
use Rattle.lowered_steps.specs.Cells.{cell_in, cells_of}
use Rattle.lowered_steps.proofs.Lists.{first_of, none_of, others}
use Rattle.lowered_typed.proofs.Written.{count_more, count_other}
use Rattle.lowered_typed.proofs.spots.+count_cells.Goals as goal

pub returns-in-empty : goal.returns-in-empty
returns-in-empty t c = ap (λ (ts : List Target). length (cells_of ts)) (sym (none_of c.args.targets.now c.in-empty.len_below))

pub returns-in-Some : goal.returns-in-Some
returns-in-Some t c =
    IfOk-weaker c.further.result _ (λ (n : ℕ). n ≡ length (cells_of c.args.targets.now))
    (λ n e. e
    ∙ count_more c.args.targets.now (others c.args.targets.now) c.first-item.result _ _
    (first_of c.args.targets.now c.first-item.result c.in-len1-up.len_at_least c.first-item.is) (sym c.cell_of.ensures ∙ ap cell_in c.in-Some.is)
    c.in_ok-others-in-len1-up.ensures) c.further.ensures

pub returns-in-None : goal.returns-in-None
returns-in-None t c =
    c.in_ok-others-in-len1-up.ensures
    ∙ count_other c.args.targets.now (others c.args.targets.now) c.first-item.result
    (first_of c.args.targets.now c.first-item.result c.in-len1-up.len_at_least c.first-item.is) (sym c.cell_of.ensures ∙ ap cell_in c.in-None.is)
