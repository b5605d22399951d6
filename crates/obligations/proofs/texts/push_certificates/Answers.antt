use Rattle.std.proofs.Common.{◌≡◌, ◌++◌, suc, min, length, sym, ap, ◌∙◌, arith, append-nil}
use Rattle.obligations.proofs.Printed.{certificates_end}
use Rattle.obligations.proofs.texts.push_certificates.Goals as goal

pub returns : goal.returns
returns c =
    let l = c.loop-place in
    let os = c.args.obligations.now in
    let certs = c.args.certificates.now in
    let at : l.place ≡ min (length os) (length certs) = omega (arith, c.lesser-count.ensures, c.loop-place-test.false, l.auto.place-end) in
    sym (append-nil l.out.items) ∙ (ap (λ t. l.out.items ++ t) (sym (certificates_end (suc l.place) os certs l.place at)) ∙ l.invariant)
