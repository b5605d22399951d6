use Rattle.std.proofs.Common.{◌≡◌, ◌++◌, min, length, sym, ap, ◌∙◌, arith, append-nil}
use Rattle.std.specs.Prelude.{codes, ◌==◌}
use Rattle.sail_types.specs.Texts.{rest_joined}
use Rattle.obligations.proofs.Printed.{values_end, rest_none}
use Rattle.obligations.proofs.texts.push_point.Goals as goal

pub returns : goal.returns
returns c =
    let l = c.loop-place in
    let ns = c.as_slice-numerators.result.now in
    let names = c.args.names.now in
    let d = c.args.point.now.denominator in
    let at : l.place ≡ min (length ns) (length names) = omega (arith, c.lesser-count.ensures, c.loop-place-test.false, l.auto.place-end) in
    sym (append-nil l.out.items)
    ∙ (ap (λ t. l.out.items ++ t) (sym (rest_none (l.place == 0)))
    ∙ (ap (λ ts. l.out.items ++ rest_joined (l.place == 0) (codes ", ") ts) (sym (values_end names ns d l.place at)) ∙ l.invariant))
