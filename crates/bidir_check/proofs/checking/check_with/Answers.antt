use Rattle.std.proofs.Common.{Ok, inl, ap, ◌∙◌, subst}
use Rattle.bidir_check.specs.Certification.{AreCertified}
use Rattle.bidir_check.specs.Checking.{certified, checked, IsMet}
use Rattle.bidir_check.proofs.Steps.{all_met, error_met, exit_first}
use Rattle.bidir_check.proofs.checking.check_with.Goals as goal

pub new-requires : goal.new-requires
new-requires g c = subst (λ os. AreCertified os c.in_ok-made.made) c.as_slice.ensures c.in_ok-made.ensures.certified

pub returns : goal.returns
returns g c =
    inl (ap Ok c.new.ensures
    ∙ all_met c.args.core c.args.obligations c.in_ok-made.made
    (subst (λ os. IsMet (Ok c.in_ok-made.made) (checked os)) c.as_slice.ensures c.in_ok-made.ensures.answer))

pub returns-in_err-made : goal.returns-in_err-made
returns-in_err-made g c =
    exit_first c.from_residual.result _ (certified c.args.core c.args.obligations) c.from_residual.ensures.1
    (error_met c.args.core c.args.obligations _ _ c.as_slice.ensures c.in_err-made.ensures.answer)
