-- Each obligation of a model with certificates holds.
use Rattle.std.proofs.Common.{List, [], ◌∷◌}
use Rattle.linear.specs.laws.Entailment.{IsImplied}
use Rattle.farkas.specs.declared.certificate.Cert.{Cert}
use Rattle.farkas.specs.laws.Entailment.{valid_implies}
use Rattle.obligations.specs.declared.obligation.Obligation.{Obligation}
use Rattle.obligations.specs.Owed.{problem_of}
use Rattle.bidir_check.specs.Certification.{AreCertified}

-- the facts of each of these obligations imply its goal
abbrev pub AllHold : List Obligation → Type 0
AllHold [] = Unit {0}
AllHold (o ∷ os) = IsImplied (problem_of o) × AllHold os

pub certified_holds : (os : List Obligation) (certs : List Cert) → AreCertified os certs → AllHold os
certified_holds [] certs h = tt
certified_holds (o ∷ os) [] h = elim h [ ]
certified_holds (o ∷ os) (cert ∷ certs) h = (valid_implies (problem_of o) cert h.0, certified_holds os certs h.1)
