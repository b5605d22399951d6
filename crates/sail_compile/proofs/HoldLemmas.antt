-- The certificates of an accepted model are valid, so its obligations hold.
use Rattle.std.proofs.Common.{◌≡◌, ℕ, List, [], ◌∷◌, refl, subst}
use Rattle.std.specs.Prelude.{Result, Ok, Err}
use Rattle.sail_core.specs.declared.model.CoreModel.{CoreModel}
use Rattle.farkas.proofs.Discharged.{discharged_shown}
use Rattle.farkas.specs.Problems.{IsValid, IsShown, discharged}
use Rattle.farkas.specs.declared.certificate.Cert.{Cert}
use Rattle.farkas.specs.declared.verdict.FarkasError.{FarkasError}
use Rattle.farkas.specs.declared.verdict.Verdict.{Verdict}
use Rattle.farkas.specs.declared.verdict.Verdict.TheVariants.{Closed, Open}
use Rattle.obligations.specs.declared.obligation.Obligation.{Obligation}
use Rattle.obligations.specs.Owed.{problem_of}
use Rattle.bidir_check.specs.declared.error.CheckError.{CheckError}
use Rattle.bidir_check.specs.Certification.{Certification, AreCertified}
use Rattle.bidir_check.specs.Checking.{settled, certificate_of, behind, checked, certified_by}
use Rattle.bidir_check.specs.laws.Holding.{AllHold, certified_holds}
use Rattle.constraint_gen.specs.Obligations.{obligations}
use Rattle.scattered.specs.Gathered.{gathered}
use Rattle.sail_compile.specs.Checked.{checked_core, core_of}
use Rattle.sail_compile.specs.Models.{AreAccepted}
use Rattle.sail_compile.specs.declared.models.Accepted.{Accepted}

settled_valid : (o : Obligation) (r : Result Verdict FarkasError) → IsShown (problem_of o) r → (cert : Cert) → settled o r ≡ Ok cert
    → IsValid (problem_of o) cert
settled_valid o (Ok (Closed found)) shown cert is =
    let same : found ≡ cert = cc is in
    subst (IsValid (problem_of o)) same shown
settled_valid o (Ok (Open point)) shown cert is = cc is
settled_valid o (Err limit) shown cert is = cc is

behind_valid : (o : Obligation) (os : List Obligation) (r : Result Cert CheckError) (more : Result (List Cert) CheckError) (certs : List Cert)
    → ((cert : Cert) → r ≡ Ok cert → IsValid (problem_of o) cert) → ((rest : List Cert) → more ≡ Ok rest → AreCertified os rest)
    → behind r more ≡ Ok certs → AreCertified (o ∷ os) certs
behind_valid o os (Ok cert) (Ok rest) certs first others is =
    let same : cert ∷ rest ≡ certs = cc is in
    subst (AreCertified (o ∷ os)) same (first cert refl, others rest refl)
behind_valid o os (Ok cert) (Err error) certs first others is = cc is
behind_valid o os (Err error) more certs first others is = cc is

checked_valid : (os : List Obligation) (certs : List Cert) → checked os ≡ Ok certs → AreCertified os certs
checked_valid [] certs is =
    let same : [] ≡ certs = cc is in
    subst (AreCertified []) same tt
checked_valid (o ∷ os) certs is =
    behind_valid o os (certificate_of o) (checked os) certs (settled_valid o (discharged (problem_of o)) (discharged_shown (problem_of o)))
    (checked_valid os) is

certified_valid : (core : CoreModel) (os : List Obligation) (r : Result (List Cert) CheckError) (made : Certification)
    → ((certs : List Cert) → r ≡ Ok certs → AreCertified os certs) → certified_by core os r ≡ Ok made
    → AreCertified made.obligations made.certificates
certified_valid core os (Ok certs) made valid is =
    let same : record { core = core; obligations = os; certificates = certs } ≡ made = cc is in
    subst (λ (c : Certification). AreCertified c.obligations c.certificates) same (valid certs refl)
certified_valid core os (Err error) made valid is = cc is

-- so it is of whatever core that is certified
certified_held : (core : CoreModel) (os : List Obligation) (r : Result (List Cert) CheckError) (made : Certification)
    → ((certs : List Cert) → r ≡ Ok certs → AreCertified os certs) → certified_by core os r ≡ Ok made → AllHold os
certified_held core os (Ok certs) made valid is = certified_holds os certs (valid certs refl)
certified_held core os (Err error) made valid is = cc is

pub core_held : (core : CoreModel) (made : Certification) → checked_core core ≡ Ok made → AllHold (obligations core)
core_held core made closed =
    let os = obligations core in
    certified_held core os (checked os) made (checked_valid os) closed

pub accepted_hold : (texts : List (List ℕ)) (made : Accepted) → AreAccepted texts made → AllHold made.certified.obligations
accepted_hold texts made are =
    let core = core_of (gathered are.definitions) in
    let os = obligations core in
    certified_holds made.certified.obligations made.certified.certificates
    (certified_valid core os (checked os) made.certified (checked_valid os) are.closed)
