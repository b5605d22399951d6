use Rattle.std.proofs.Common.{◌≡◌, suc, ◌++◌, drop}
use Rattle.obligations.specs.Texts.{certificates_text}
use Rattle.obligations.proofs.texts.push_certificates.Given as goal

abbrev pub invariant-loop-place : goal.invariant-loop-place
invariant-loop-place l =
    l.out.items ++ certificates_text (suc l.place) (drop l.place l.obligations) (drop l.place l.certificates)
    ≡ l.fn.out.items ++ certificates_text 1 l.obligations l.certificates
