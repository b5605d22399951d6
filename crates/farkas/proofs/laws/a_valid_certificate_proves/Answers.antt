use Rattle.farkas.specs.laws.Entailment.{valid_implies}
use Rattle.farkas.proofs.laws.a_valid_certificate_proves.Goals as goal

pub returns : goal.returns
returns c = valid_implies
