-- An answer that is Closed has a valid certificate; the answer from the rows that are kept is the answer from the cases.
use Rattle.std.proofs.Common.{◌≡◌, ℕ, zero, suc, ◌+◌, ◌<◌, List, [], ◌∷◌, ◌++◌, length, get_or, drop, map, Result, Ok, Err}
use Rattle.std.proofs.Common.{sym, ap, ◌∙◌, subst, refl, arith}
use Rattle.std.proofs.lemmas.List.{drop_more, append_assoc, append-nil}
use Rattle.linear.specs.declared.row.Row.{Row}
use Rattle.linear.specs.declared.problem.Problem.{Problem}
use Rattle.linear.specs.declared.problem.LinearError.{LinearError}
use Rattle.linear.specs.declared.problem.LinearError.TheVariants as linear_error
use Rattle.linear.specs.Cases.{cases_of, variables_of}
use Rattle.farkas.specs.declared.certificate.Case.{Case}
use Rattle.farkas.specs.declared.keeping.Starts.{Starts}
use Rattle.farkas.specs.declared.refuting.End.{End}
use Rattle.farkas.specs.declared.refuting.End.TheVariants as end
use Rattle.farkas.specs.declared.verdict.Verdict.{Verdict}
use Rattle.farkas.specs.declared.verdict.Verdict.TheVariants.{Closed, Open}
use Rattle.farkas.specs.declared.verdict.FarkasError.{FarkasError}
use Rattle.farkas.specs.Keeping.{starts, IsFew, AreFew}
use Rattle.farkas.specs.Ends.{end_from, case_end}
use Rattle.farkas.specs.Validity.{IsValidCase, AreValid}
use Rattle.farkas.specs.Verdicts.{answer_of, eliminated, eliminated_from, eliminated_starts_from, IsCertified}
use Rattle.farkas.specs.Problems.{answered, discharged, IsShown}
use Rattle.farkas.proofs.Certified.{case_valid, valid_push}

pub same_starts : (variables : ℕ) (cases : List (List Row)) (before : List Case) →
    eliminated_from variables cases before ≡ eliminated_starts_from variables (map starts cases) before
same_starts variables [] before = refl
same_starts variables (rows ∷ more) before = λ j. answer_of before (case_end variables rows) (λ b. same_starts variables more b j)

module _ (variables : ℕ) where
  end_certified : (done : List (List Row)) (rows : List Row) (more : List (List Row)) (before : List Case) (e : End) → e ≡ case_end variables rows →
      ((certificate : Case) → IsValidCase rows certificate →
      IsCertified (done ++ rows ∷ more) (eliminated_from variables more (before ++ certificate ∷ []))) →
      IsCertified (done ++ rows ∷ more) (answer_of before e (eliminated_from variables more))
  end_certified done rows more before (end.Closed certificate) p rest = rest certificate (case_valid variables rows (end.Closed certificate) certificate p refl)
  end_certified done rows more before (end.Open point) p rest = tt
  end_certified done rows more before (end.RowsPast i) p rest = tt
  end_certified done rows more before end.NumbersPast p rest = tt

  certified : (cases done : List (List Row)) (before : List Case) → AreValid done before → IsCertified (done ++ cases) (eliminated_from variables cases before)
  certified [] done before h = subst (λ rows. AreValid rows before) (sym (append-nil done)) h
  certified (rows ∷ more) done before h =
      end_certified done rows more before (case_end variables rows) refl (λ certificate v.
      subst (λ all. IsCertified all (eliminated_from variables more (before ++ certificate ∷ []))) (append_assoc done (rows ∷ []) more)
      (certified more (done ++ rows ∷ []) (before ++ certificate ∷ []) (valid_push done before rows certificate h v)))

verdict_shown : (problem : Problem) (cases : List (List Row)) (v : Result Verdict FarkasError) → cases_of problem ≡ Ok cases → IsCertified cases v →
    IsShown problem v
verdict_shown problem cases (Ok (Closed certificate)) e h = (cases, e, h)
verdict_shown problem cases (Ok (Open point)) e h = tt
verdict_shown problem cases (Err limit) e h = tt

cases_shown : (problem : Problem) (r : Result (List (List Row)) LinearError) → cases_of problem ≡ r →
    IsShown problem (answered (length (variables_of problem)) r)
cases_shown problem (Ok cases) e =
    verdict_shown problem cases (eliminated (length (variables_of problem)) cases) e (certified (length (variables_of problem)) cases [] [] tt)
cases_shown problem (Err linear_error.NumberLimit) e = tt
cases_shown problem (Err (linear_error.CaseLimit count)) e = tt
cases_shown problem (Err linear_error.OutOfMemory) e = tt

-- the answer to a problem has a valid certificate where it is Closed
pub discharged_shown : (problem : Problem) → IsShown problem (discharged problem)
discharged_shown problem = cases_shown problem (cases_of problem) refl

-- ---- several lists of kept rows

pub few_at : (cases : List Starts) (i : ℕ) (case : Starts) → i < length cases → case ≡ get_or cases i case → AreFew cases → IsFew case
few_at [] i case h read few = absurd (omega arith)
few_at (s ∷ rest) zero case h read few = subst IsFew (sym read) few.0
few_at (s ∷ rest) (suc i) case h read few = few_at rest i case (omega arith) read few.1

module _ (variables : ℕ) (cases : List Starts) (i : ℕ) (case : Starts) (within : i < length cases) (read : case ≡ get_or cases i case) where
  pub starts_more : (before more : List Case) (e : End) (certificate : Case) (whole : Result Verdict FarkasError) → e ≡ end_from variables case
      → e ≡ end.Closed certificate → more ≡ before ++ certificate ∷ [] →
      eliminated_starts_from variables (drop i cases) before ≡ whole → eliminated_starts_from variables (drop (i + 1) cases) more ≡ whole
  starts_more before more e certificate whole p q pushed same =
      ap (eliminated_starts_from variables (drop (i + 1) cases)) pushed
      ∙ (ap (λ x. answer_of before x (eliminated_starts_from variables (drop (i + 1) cases))) (sym q ∙ p)
      ∙ (ap (λ s. answer_of before (end_from variables s) (eliminated_starts_from variables (drop (i + 1) cases))) read
      ∙ (ap (λ rest. eliminated_starts_from variables rest before) (sym (drop_more cases i case within)) ∙ same)))
