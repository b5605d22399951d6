use Rattle.std.proofs.Common.{sym, ap, ◌∙◌, subst, ◌≡◌, ◌∷◌, [], IfOk}
use Rattle.linear.proofs.Counts.{empty_list, rows_listed}
use Rattle.linear.proofs.listing.+listing.Goals as goal

pub list-returns-then-count-eq0 : goal.list-returns-then-count-eq0
list-returns-then-count-eq0 t c = c.new.ensures ∙ empty_list _ (sym c.if-count-eq0.true ∙ c.count.ensures)

pub list-returns-in-Rows : goal.list-returns-in-Rows
list-returns-in-Rows t c = subst (λ x. IfOk c.one.result (λ all. all ≡ x)) (ap (λ rows. rows ∷ []) c.as_slice.ensures ∙
    rows_listed c.args.cut c.in-Rows.rows _ _ c.in-Rows.is c.count.ensures c.if-count-eq0.false) c.one.ensures
