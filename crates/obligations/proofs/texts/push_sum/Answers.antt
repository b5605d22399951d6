use Rattle.std.proofs.Common.{◌≡◌, ◌++◌, min, length, sym, ap, ◌∙◌, arith}
use Rattle.obligations.proofs.Printed.{on_ok, sum_rest, none_rest, terms_end}
use Rattle.obligations.proofs.texts.push_sum.Goals as goal

pub returns : goal.returns
returns c =
    let l = c.loop-place in
    let cs = c.args.coefficients.now in
    let names = c.args.names.now in
    let at : l.place ≡ min (length cs) (length names) = omega (arith, c.lesser-count.ensures, c.loop-place-test.false, l.auto.place-end) in
    on_ok c.push_zero.result
    (λ e. e ∙ (ap (λ t. l.out.items ++ t) (none_rest l.first)
    ∙ (ap (λ ts. l.out.items ++ sum_rest l.first ts) (sym (terms_end cs names l.place at)) ∙ l.invariant)))
    c.push_zero.ensures
