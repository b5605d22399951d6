-- A model whose obligations hold, as certificates show.
use Rattle.std.specs.Prelude.{List, [], ◌∷◌}
use Rattle.sail_core.specs.declared.model.CoreModel.{CoreModel}
use Rattle.farkas.specs.declared.certificate.Cert.{Cert}
use Rattle.farkas.specs.Problems.{IsValid}
use Rattle.obligations.specs.declared.obligation.Obligation.{Obligation}
use Rattle.obligations.specs.Owed.{problem_of}

-- a model, its obligations, and a certificate for each, in order
pub record Certification : Type 0 where
  pub core : CoreModel
  pub obligations : List Obligation
  pub certificates : List Cert

-- each certificate is valid for its obligation
abbrev pub AreCertified : List Obligation → List Cert → Type 0
AreCertified [] [] = Unit {0}
AreCertified (o ∷ os) (cert ∷ certs) = IsValid (problem_of o) cert × AreCertified os certs
AreCertified os certs = ⊥
