-- When a point shows that all rows of a case can be true.
use Rattle.std.specs.Prelude.{◌≡◌, ℕ, ◌*ℤ◌, ◌≤ℤ◌, ◌<ℤ◌, List, [], ◌∷◌, ◌++◌, ℤ, pos, slice_index_or, Ok, ◌≤◌, length}
use Rattle.linear.specs.declared.row.Row.{Row}
use Rattle.linear.specs.declared.problem.Problem.{Problem}
use Rattle.linear.specs.Rows.{total}
use Rattle.linear.specs.Cases.{cases_of, variables_of}
use Rattle.farkas.specs.declared.certificate.Case.{Case}
use Rattle.farkas.specs.declared.points.Point.{Point}
use Rattle.farkas.specs.declared.refuting.End.TheVariants as end
use Rattle.farkas.specs.Ends.{case_end}

-- the value of a variable at a point, times the point's denominator
abbrev pub numerator : Point → ℕ → ℤ
numerator point i = slice_index_or point.numerators i (pos 0)

-- a row is true at a point: both sides are multiplied by the denominator, which is above 0
abbrev pub IsTrueAt : Point → Row → Type 0
IsTrueAt point row = total row.coefficients (numerator point) ≤ℤ (row.bound *ℤ point.denominator)

abbrev pub AreTrueAt : Point → List Row → Type 0
AreTrueAt point [] = Unit {0}
AreTrueAt point (row ∷ rows) = IsTrueAt point row × AreTrueAt point rows

-- a point shows that all of several rows can be true
pub record Shows (point : Point) (rows : List Row) : Type 0 where
  pub positive : pos 0 <ℤ point.denominator
  pub each : AreTrueAt point rows

-- rows name no variable past so many
abbrev pub AreOver : ℕ → List Row → Type 0
AreOver variables [] = Unit {0}
AreOver variables (row ∷ rows) = (length row.coefficients ≤ variables) × AreOver variables rows

-- each of several cases closes
abbrev pub AreClosed : ℕ → List (List Row) → Type 0
AreClosed variables [] = Unit {0}
AreClosed variables (rows ∷ more) = ((certificate : Case) × (case_end variables rows ≡ end.Closed certificate)) × AreClosed variables more

-- a point shows a problem open: all rows of the first case that doesn't close are true at it
pub record IsOpenAt (problem : Problem) (point : Point) : Type 0 where
  pub before : List (List Row)
  pub rows : List Row
  pub after : List (List Row)
  pub cases : cases_of problem ≡ Ok (before ++ rows ∷ after)
  pub closed : AreClosed (length (variables_of problem)) before
  pub shows : Shows point rows
