-- What elimination says of cases.
use Rattle.std.specs.Prelude.{◌≡◌, ◌⊎◌, ℕ, List, [], ◌∷◌, ◌++◌, Result, Ok, Err}
use Rattle.linear.specs.declared.row.Row.{Row}
use Rattle.farkas.specs.declared.certificate.Case.{Case}
use Rattle.farkas.specs.declared.refuting.End.{End}
use Rattle.farkas.specs.declared.refuting.End.TheVariants as end
use Rattle.farkas.specs.declared.verdict.Verdict.{Verdict}
use Rattle.farkas.specs.declared.verdict.Verdict.TheVariants.{Closed, Open}
use Rattle.farkas.specs.declared.verdict.FarkasError.{FarkasError}
use Rattle.farkas.specs.declared.verdict.FarkasError.TheVariants.{RowLimit, NumberLimit, OutOfMemory}
use Rattle.farkas.specs.declared.keeping.Starts.{Starts}
use Rattle.farkas.specs.Ends.{case_end, end_from}
use Rattle.farkas.specs.Validity.{AreValid}

-- the answer after a case with this end, where these certificates stand before it and `rest` goes on with one more
abbrev pub answer_of : List Case → End → (List Case → Result Verdict FarkasError) → Result Verdict FarkasError
answer_of before (end.Closed certificate) rest = rest (before ++ certificate ∷ [])
answer_of before (end.Open point) rest = Ok (Open point)
answer_of before (end.RowsPast i) rest = Err (RowLimit i)
answer_of before end.NumbersPast rest = Err NumberLimit

-- the answer to cases behind others that have these certificates
abbrev pub eliminated_from : ℕ → List (List Row) → List Case → Result Verdict FarkasError
eliminated_from variables [] before = Ok (Closed (record { cases = before }))
eliminated_from variables (rows ∷ more) before = answer_of before (case_end variables rows) (eliminated_from variables more)

-- the answer to cases of so many variables: a certificate for each, or the first that is open or at a limit
abbrev pub eliminated : ℕ → List (List Row) → Result Verdict FarkasError
eliminated variables cases = eliminated_from variables cases []

-- the same where the rows are given that are kept of each case
abbrev pub eliminated_starts_from : ℕ → List Starts → List Case → Result Verdict FarkasError
eliminated_starts_from variables [] before = Ok (Closed (record { cases = before }))
eliminated_starts_from variables (starts ∷ more) before = answer_of before (end_from variables starts) (eliminated_starts_from variables more)

abbrev pub eliminated_starts : ℕ → List Starts → Result Verdict FarkasError
eliminated_starts variables cases = eliminated_starts_from variables cases []

-- an answer is that of a definition, or memory is wanting
abbrev pub IsAnswer : Result Verdict FarkasError → Result Verdict FarkasError → Type 0
IsAnswer result answer = (result ≡ answer) ⊎ (result ≡ Err OutOfMemory)

-- a certificate is valid
abbrev pub IsCertified : List (List Row) → Result Verdict FarkasError → Type 0
IsCertified cases (Ok (Closed certificate)) = AreValid cases certificate.cases
IsCertified cases result = Unit {0}
