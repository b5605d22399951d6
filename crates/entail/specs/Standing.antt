-- What stands, and how many facts were turned into rows.
use Rattle.std.specs.Prelude.{◌≡◌, ℕ, ◌+◌, ◌-◌, ◌^◌, min, List, Result, Ok, Err}
use Rattle.sail_types.specs.declared.numbers.Con.{Con}
use Rattle.linear.specs.declared.problem.Problem.{Problem}
use Rattle.farkas.specs.declared.verdict.Verdict.{Verdict}
use Rattle.farkas.specs.declared.verdict.FarkasError.{FarkasError}
use Rattle.farkas.specs.declared.verdict.FarkasError.TheVariants.{RowLimit, NumberLimit, CaseLimit, OutOfMemory}

-- the facts that stand, and a count of facts that were turned into rows
pub record Standing : Type 0 where
  pub facts : List Con
  pub read : ℕ

-- whether these facts imply a goal
abbrev pub problem_of : List Con → Con → Problem
problem_of facts goal = record { facts = facts; goal = goal }

-- a count with so many more, cut off at 2^64 - 1
abbrev pub counted : ℕ → ℕ → ℕ
counted before more = min (before + more) (2 ^ 64 - 1)

-- a count is the next one, unless memory is wanting
abbrev pub IsCounted : Result Verdict FarkasError → ℕ → ℕ → ℕ → Type 0
IsCounted (Ok verdict) before next after = after ≡ next
IsCounted (Err (RowLimit i)) before next after = after ≡ next
IsCounted (Err NumberLimit) before next after = after ≡ next
IsCounted (Err (CaseLimit n)) before next after = after ≡ next
IsCounted (Err OutOfMemory) before next after = after ≡ before
