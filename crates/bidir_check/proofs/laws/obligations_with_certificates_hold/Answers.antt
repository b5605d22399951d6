use Rattle.bidir_check.specs.laws.Holding.{certified_holds}
use Rattle.bidir_check.proofs.laws.obligations_with_certificates_hold.Goals as goal

pub returns : goal.returns
returns c = certified_holds
