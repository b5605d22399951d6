use Rattle.std.proofs.Common.{◌≡◌, subst}
use Rattle.std.specs.Prelude.{Result}
use Rattle.constraint_gen.specs.Obligations.{obligations}
use Rattle.bidir_check.specs.declared.error.CheckError.{CheckError}
use Rattle.bidir_check.specs.Certification.{Certification}
use Rattle.bidir_check.specs.Checking.{IsMet, certified}
use Rattle.sail_compile.proofs.checking.certify.Goals as goal

pub returns : goal.returns
returns c =
    let owed : c.in_ok-obligations.obligations ≡ obligations c.args.core = c.in_ok-obligations.ensures in
    subst (λ (found : Result Certification CheckError). IsMet c.check.result found) (λ j. certified c.args.core (owed j)) c.check.ensures
