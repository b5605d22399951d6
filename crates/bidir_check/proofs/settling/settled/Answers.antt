use Rattle.std.proofs.Common.{sym, ap, ◌∙◌, subst, Ok, Err}
use Rattle.farkas.specs.declared.certificate.Cert.{Cert}
use Rattle.bidir_check.specs.Checking.{settled, IsMet}
use Rattle.bidir_check.proofs.Steps.{met_error}
use Rattle.bidir_check.proofs.settling.settled.Goals as goal

pub returns-in-Open-clause-answer : goal.returns-in-Open-clause-answer
returns-in-Open-clause-answer c =
    subst (λ a. IsMet (Err c.open.result) (settled c.args.obligation.now a)) (sym (c.in-Ok.is ∙ ap Ok c.in-Open.is)) (met_error {A = Cert} _ _ c.open.ensures)

pub returns-in-Err-clause-answer : goal.returns-in-Err-clause-answer
returns-in-Err-clause-answer c =
    subst (λ a. IsMet (Err c.stopped.result) (settled c.args.obligation.now a)) (sym c.in-Err.is) (met_error {A = Cert} _ _ c.stopped.ensures)
