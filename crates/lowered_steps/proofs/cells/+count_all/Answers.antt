use Rattle.std.proofs.Common.{◌≡◌, ◌∙◌, ℕ, sym, ap}
use Rattle.std.proofs.lemmas.Result.{IfOk-weaker}
use Rattle.lowered_pieces.specs.Writes.{takes_all}
use Rattle.lowered_steps.specs.Cells.{aim_of, cell_in, cells_of}
use Rattle.lowered_steps.proofs.Aimed.{takes_more, takes_none, takes_other}
use Rattle.lowered_steps.proofs.Lists.{first_of, others}
use Rattle.lowered_steps.proofs.cells.+count_all.Goals as goal

pub returns-in-empty : goal.returns-in-empty
returns-in-empty t c = takes_none c.args.targets.now c.in-empty.len_below

pub returns-in_ok-count_indexes-in-Some : goal.returns-in_ok-count_indexes-in-Some
returns-in_ok-count_indexes-in-Some t c =
    IfOk-weaker c.further.result _ (λ (n : ℕ). n ≡ takes_all (cells_of c.args.targets.now))
    (λ n e. e
    ∙ takes_more c.args.targets.now (others c.args.targets.now) c.first-item.result (aim_of c.in-Some.cell) _ _
    (first_of c.args.targets.now c.first-item.result c.in-len1-up.len_at_least c.first-item.is) (sym c.cell_of.ensures ∙ ap cell_in c.in-Some.is)
    c.in_ok-count_indexes-in-Some.ensures c.in_ok-behind-in-len1-up.ensures) c.further.ensures

pub returns-in-None : goal.returns-in-None
returns-in-None t c =
    c.in_ok-behind-in-len1-up.ensures
    ∙ takes_other c.args.targets.now (others c.args.targets.now) c.first-item.result
    (first_of c.args.targets.now c.first-item.result c.in-len1-up.len_at_least c.first-item.is) (sym c.cell_of.ensures ∙ ap cell_in c.in-None.is)
