use Rattle.std.proofs.Common.{subst}
use Rattle.bidir_check.specs.Checking.{certified, first_of, IsMet}
use Rattle.bidir_check.proofs.checking.check.Goals as goal

pub returns-in-Ok : goal.returns-in-Ok
returns-in-Ok c = subst (λ r. IsMet (first_of r) (certified c.args.core c.args.obligations)) c.in-Ok.is c.check_with.ensures
