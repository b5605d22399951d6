use Rattle.std.proofs.Common.{◌≡◌, subst}
use Rattle.std.specs.Prelude.{Result}
use Rattle.bidir_check.specs.declared.error.CheckError.{CheckError}
use Rattle.bidir_check.specs.Certification.{Certification}
use Rattle.bidir_check.specs.Checking.{IsMet}
use Rattle.sail_compile.specs.Checked.{checked_core}
use Rattle.sail_compile.proofs.checking.check_core.Goals as goal

pub returns : goal.returns
returns c =
    subst (λ (found : Result Certification CheckError). IsMet c.certify.result found) (λ j. checked_core (c.without_cycles.ensures j)) c.certify.ensures
