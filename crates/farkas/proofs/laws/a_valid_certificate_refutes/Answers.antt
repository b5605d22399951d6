use Rattle.farkas.specs.laws.Soundness.{cases_refuted}
use Rattle.farkas.proofs.laws.a_valid_certificate_refutes.Goals as goal

pub returns : goal.returns
returns c = cases_refuted
