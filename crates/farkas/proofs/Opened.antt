-- The point of an open problem makes all rows of its first case that doesn't close true.
use Rattle.std.proofs.Common.{◌≡◌, ℕ, List, [], ◌∷◌, ◌++◌, length, Result, Ok, Err, ap, ◌∙◌, refl}
use Rattle.linear.specs.declared.problem.Problem.{Problem}
use Rattle.linear.specs.declared.problem.LinearError.{LinearError}
use Rattle.linear.specs.declared.problem.LinearError.TheVariants as linear_error
use Rattle.linear.specs.declared.row.Row.{Row}
use Rattle.linear.specs.Cases.{cases_of, variables_of}
use Rattle.farkas.specs.declared.certificate.Case.{Case}
use Rattle.farkas.specs.declared.points.Point.{Point}
use Rattle.farkas.specs.declared.refuting.End.{End}
use Rattle.farkas.specs.declared.refuting.End.TheVariants as end
use Rattle.farkas.specs.declared.verdict.Verdict.TheVariants.{Open}
use Rattle.farkas.specs.Ends.{case_end}
use Rattle.farkas.specs.Problems.{answered, discharged}
use Rattle.farkas.specs.Shown.{AreOver, AreClosed, Shows, IsOpenAt}
use Rattle.farkas.specs.Verdicts.{answer_of, eliminated_from}
use Rattle.farkas.proofs.Over.{AllOver, MayCases, cases_over}
use Rattle.farkas.proofs.PointShown.{case_shows}

module _ (n : ℕ) (point : Point) where
  record Split (cases : List (List Row)) : Type 0 where
    before : List (List Row)
    rows : List Row
    after : List (List Row)
    same : cases ≡ before ++ rows ∷ after
    closed : AreClosed n before
    shows : Shows point rows

  case_split : (rows : List Row) (more : List (List Row)) (certificates : List Case) (e : End) → AreOver n rows →
      ((next : List Case) → eliminated_from n more next ≡ Ok (Open point) → Split more) → case_end n rows ≡ e →
      answer_of certificates e (eliminated_from n more) ≡ Ok (Open point) → Split (rows ∷ more)
  case_split rows more certificates (end.Closed certificate) few later e q =
      let s = later (certificates ++ certificate ∷ []) q in
      record {
        before = rows ∷ s.before;
        rows = s.rows;
        after = s.after;
        same = ap (λ rest. rows ∷ rest) s.same;
        closed = ((certificate, e), s.closed);
        shows = s.shows;
      }
  case_split rows more certificates (end.Open found) few later e q =
      let same : found ≡ point = cc in
      record { before = []; rows = rows; after = more; same = refl; closed = tt; shows = case_shows n rows few point (e ∙ ap end.Open same) }
  case_split rows more certificates (end.RowsPast i) few later e q = absurd (cc)
  case_split rows more certificates end.NumbersPast few later e q = absurd (cc)

  cases_split : (cases : List (List Row)) (certificates : List Case) → AllOver n cases → eliminated_from n cases certificates ≡ Ok (Open point) → Split cases
  cases_split [] certificates few q = absurd (cc)
  cases_split (rows ∷ more) certificates few q =
      case_split rows more certificates (case_end n rows) few.0 (λ next r. cases_split more next few.1 r) refl q

opened : (problem : Problem) (point : Point) (r : Result (List (List Row)) LinearError) → MayCases (length (variables_of problem)) r →
    cases_of problem ≡ r → answered (length (variables_of problem)) r ≡ Ok (Open point) → IsOpenAt problem point
opened problem point (Ok cases) few e q =
    let s = cases_split (length (variables_of problem)) point cases [] few q in
    record { before = s.before; rows = s.rows; after = s.after; cases = e ∙ ap Ok s.same; closed = s.closed; shows = s.shows }
opened problem point (Err linear_error.NumberLimit) few e q = absurd (cc)
opened problem point (Err (linear_error.CaseLimit count)) few e q = absurd (cc)
opened problem point (Err linear_error.OutOfMemory) few e q = absurd (cc)

pub open_shows : (problem : Problem) (point : Point) → discharged problem ≡ Ok (Open point) → IsOpenAt problem point
open_shows problem point q = opened problem point (cases_of problem) (cases_over problem) refl q
