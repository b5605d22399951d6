-- When the facts of a problem are shown to imply its goal.
use Rattle.std.specs.Prelude.{◌≡◌, ℕ, List, length, Result, Ok, Err}
use Rattle.linear.specs.declared.problem.Problem.{Problem}
use Rattle.linear.specs.declared.problem.LinearError.{LinearError}
use Rattle.linear.specs.declared.problem.LinearError.TheVariants as linear_error
use Rattle.linear.specs.declared.row.Row.{Row}
use Rattle.linear.specs.Cases.{cases_of, variables_of}
use Rattle.farkas.specs.declared.certificate.Cert.{Cert}
use Rattle.farkas.specs.declared.verdict.Verdict.{Verdict}
use Rattle.farkas.specs.declared.verdict.Verdict.TheVariants.{Closed}
use Rattle.farkas.specs.declared.verdict.FarkasError.{FarkasError}
use Rattle.farkas.specs.declared.verdict.FarkasError.TheVariants.{NumberLimit, CaseLimit, OutOfMemory}
use Rattle.farkas.specs.Validity.{AreValid}
use Rattle.farkas.specs.Verdicts.{eliminated}

-- a certificate is valid for a problem: it is for the problem's cases; none is where these are refused
abbrev pub IsValid : Problem → Cert → Type 0
IsValid problem certificate = (cases : List (List Row)) × (cases_of problem ≡ Ok cases) × AreValid cases certificate.cases

-- the answer to a problem of so many variables with these cases, or that it has none
abbrev pub answered : ℕ → Result (List (List Row)) LinearError → Result Verdict FarkasError
answered variables (Ok cases) = eliminated variables cases
answered variables (Err linear_error.NumberLimit) = Err NumberLimit
answered variables (Err (linear_error.CaseLimit count)) = Err (CaseLimit count)
answered variables (Err linear_error.OutOfMemory) = Err OutOfMemory

-- the answer to a problem
abbrev pub discharged : Problem → Result Verdict FarkasError
discharged problem = answered (length (variables_of problem)) (cases_of problem)

-- a closed problem has a valid certificate
abbrev pub IsShown : Problem → Result Verdict FarkasError → Type 0
IsShown problem (Ok (Closed certificate)) = IsValid problem certificate
IsShown problem result = Unit {0}
