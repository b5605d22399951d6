-- What checking obligations gives: a certificate for each, or the first that isn't closed.
use Rattle.std.specs.Prelude.{◌≡◌, ◌⊎◌, ℕ, zero, suc, List, [], ◌∷◌, Option, Some, None, Result, Ok, Err, slice_get}
use Rattle.sail_types.specs.declared.numbers.Con.{Con}
use Rattle.sail_core.specs.declared.model.CoreModel.{CoreModel}
use Rattle.farkas.specs.Problems.{discharged}
use Rattle.farkas.specs.declared.certificate.Cert.{Cert}
use Rattle.farkas.specs.declared.verdict.FarkasError.{FarkasError}
use Rattle.farkas.specs.declared.verdict.FarkasError.TheVariants as F
use Rattle.farkas.specs.declared.verdict.Verdict.{Verdict}
use Rattle.farkas.specs.declared.verdict.Verdict.TheVariants.{Closed, Open}
use Rattle.obligations.specs.declared.obligation.Obligation.{Obligation}
use Rattle.obligations.specs.Owed.{problem_of}
use Rattle.bidir_check.specs.declared.error.CheckError.{CheckError}
use Rattle.bidir_check.specs.declared.error.CheckError.TheVariants as E
use Rattle.bidir_check.specs.Certification.{Certification}

-- an obligation at which elimination passes a limit
abbrev pub stopped : Obligation → FarkasError → CheckError
stopped o (F.RowLimit v) = E.Limit o.place o.names (F.RowLimit v)
stopped o F.NumberLimit = E.Limit o.place o.names F.NumberLimit
stopped o (F.CaseLimit n) = E.Limit o.place o.names (F.CaseLimit n)
stopped o F.OutOfMemory = E.OutOfMemory

-- an obligation with this answer of elimination is closed, open at a point, or at a limit
abbrev pub settled : Obligation → Result Verdict FarkasError → Result Cert CheckError
settled o (Ok (Closed cert)) = Ok cert
settled o (Ok (Open point)) = Err (E.Open o.place o.names point)
settled o (Err limit) = Err (stopped o limit)

-- the certificate of an obligation
abbrev pub certificate_of : Obligation → Result Cert CheckError
certificate_of o = settled o (discharged (problem_of o))

-- one more behind a certificate; the first refusal stands
abbrev pub behind : Result Cert CheckError → Result (List Cert) CheckError → Result (List Cert) CheckError
behind (Ok cert) (Ok certs) = Ok (cert ∷ certs)
behind (Ok cert) (Err error) = Err error
behind (Err error) more = Err error

-- the certificates of obligations, in order, or why the first of them that isn't closed has none
abbrev pub checked : List Obligation → Result (List Cert) CheckError
checked [] = Ok []
checked (o ∷ os) = behind (certificate_of o) (checked os)

-- a model with these obligations
abbrev pub certified_by : CoreModel → List Obligation → Result (List Cert) CheckError → Result Certification CheckError
certified_by core os (Ok certs) = Ok (record { core = core; obligations = os; certificates = certs })
certified_by core os (Err error) = Err error

abbrev pub certified : CoreModel → List Obligation → Result Certification CheckError
certified core os = certified_by core os (checked os)

-- an answer is that of a definition, or memory is wanting
abbrev pub IsMet : {A : Type 0} → Result A CheckError → Result A CheckError → Type 0
IsMet result answer = (result ≡ answer) ⊎ (result ≡ Err E.OutOfMemory)

-- the first part of what there is
abbrev pub first_of : {A B : Type 0} → Result (A × B) CheckError → Result A CheckError
first_of (Ok both) = Ok both.0
first_of (Err error) = Err error

-- ---- from one obligation to the next

abbrev pub facts_in : Option Obligation → List Con
facts_in None = []
facts_in (Some o) = o.facts

-- the facts of the obligation before a place; none before the first
abbrev pub facts_before : List Obligation → ℕ → List Con
facts_before os zero = []
facts_before os (suc i) = facts_in (slice_get os i)
