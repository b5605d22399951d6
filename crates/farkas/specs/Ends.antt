-- How a case ends: with a certificate, with a point, or at a limit.
use Rattle.std.specs.Prelude.{ℕ, List, [], length, Option, Some, None}
use Rattle.linear.specs.declared.row.Row.{Row}
use Rattle.farkas.specs.declared.elimination.Held.{Held}
use Rattle.farkas.specs.declared.elimination.Solved.{Solved}
use Rattle.farkas.specs.declared.elimination.Solved.TheVariants as solved_as
use Rattle.farkas.specs.declared.keeping.Starts.{Starts}
use Rattle.farkas.specs.declared.keeping.Starts.TheVariants as start
use Rattle.farkas.specs.declared.points.Point.{Point}
use Rattle.farkas.specs.declared.refuting.End.{End}
use Rattle.farkas.specs.declared.refuting.End.TheVariants as end
use Rattle.farkas.specs.Keeping.{starts}
use Rattle.farkas.specs.Elimination.{solved, numbered}
use Rattle.farkas.specs.Pruning.{stood_on}
use Rattle.farkas.specs.Points.{point_of}

-- an open case's point, where its numbers are within the limit
abbrev pub at_point : Option Point → End
at_point (Some point) = end.Open point
at_point None = end.NumbersPast

abbrev pub pointed : List (List Held) → End
pointed stages = at_point (point_of stages)

-- the end of an elimination from these starting rows
abbrev pub ended : List Row → Solved → End
ended rows (solved_as.Closed steps) = end.Closed (record { starts = rows; steps = stood_on (length rows) steps })
ended rows (solved_as.Open stages) = pointed stages
ended rows (solved_as.RowsPast i) = end.RowsPast i
ended rows solved_as.NumbersPast = end.NumbersPast

abbrev pub end_from : ℕ → Starts → End
end_from variables (start.Contradiction rows) = end.Closed (record { starts = rows; steps = [] })
end_from variables start.TooMany = end.RowsPast 0
end_from variables (start.Kept rows) = ended rows (solved (length rows) variables 0 (numbered 1 rows) [] [])

-- the end of a case of so many variables
abbrev pub case_end : ℕ → List Row → End
case_end variables rows = end_from variables (starts rows)
