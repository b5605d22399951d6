use Rattle.lowered_laws.specs.Returning.{BodiesStay}
use Rattle.lowered_laws.proofs.QuietKinds.{core_q}
use Rattle.lowered_laws.proofs.form_laws.bodies_stay.Goals as goal

stay : BodiesStay
stay types cases w s c e = core_q types cases w s c e

pub returns : goal.returns
returns c = record { stay = stay }
