-- Which rows are kept: none that is true of all values, and of rows with the same coefficients the one with the least bound.
use Rattle.std.specs.Prelude.{ℕ, suc, ◌≤◌, List, [], ◌∷◌, ◌++◌, length, set, pos, if◌then◌else◌, int_lt, nat_lt}
use Rattle.std.specs.List.{fold}
use Rattle.linear.specs.declared.row.Row.{Row}
use Rattle.linear.specs.Rows.{is_constant, are_same, reduced}
use Rattle.farkas.specs.declared.keeping.Fate.{Fate}
use Rattle.farkas.specs.declared.keeping.Fate.TheVariants.{Closes, Drops, Replaces, Joins}
use Rattle.farkas.specs.declared.keeping.Starts.{Starts}
use Rattle.farkas.specs.declared.keeping.Starts.TheVariants.{Kept, Contradiction, TooMany}

-- at most so many rows are kept
abbrev pub most_rows : ℕ
most_rows = 4096

-- what becomes of a row that names a variable beside kept rows, the first of which is at place i
abbrev pub against : Row → ℕ → List Row → Fate
against row i [] = Joins
against row i (k ∷ ks) = if are_same k.coefficients row.coefficients then (if int_lt row.bound k.bound then Replaces i else Drops) else against row
    (suc i) ks

-- what becomes of a row beside the kept ones
abbrev pub fate : List Row → Row → Fate
fate kept row = if is_constant row then (if int_lt row.bound (pos 0) then Closes else Drops) else against row 0 kept

-- the kept rows after a row with this fate
abbrev pub settled : List Row → Row → Fate → Starts
settled kept row Closes = Contradiction (kept ++ row ∷ [])
settled kept row Drops = Kept kept
settled kept row (Replaces i) = Kept (set kept i row)
settled kept row Joins = if nat_lt (length kept) most_rows then Kept (kept ++ row ∷ []) else TooMany

-- the kept rows after one more row, which is divided by the greatest number that divides its numbers
abbrev pub started : Starts → Row → Starts
started (Kept kept) row = settled kept (reduced row) (fate kept (reduced row))
started ended row = ended

-- the rows that are kept of a case, up to the first contradiction
abbrev pub starts : List Row → Starts
starts rows = fold started (Kept []) rows

-- at most so many rows are kept of a case, and of each of several
abbrev pub IsFew : Starts → Type 0
IsFew (Kept rows) = length rows ≤ most_rows
IsFew ended = Unit {0}

abbrev pub AreFew : List Starts → Type 0
AreFew [] = Unit {0}
AreFew (first ∷ rest) = IsFew first × AreFew rest
