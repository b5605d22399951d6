-- When a certificate is valid: a reader can check it row by row.
use Rattle.std.specs.Prelude.{ℕ, zero, suc, ◌-◌, length, Bool, true, false, ◌&&◌, List, [], ◌∷◌, ◌++◌, pos, Option}
use Rattle.std.specs.Prelude.{Some, None, if◌then◌else◌, int_lt, slice_get, ◌≡◌}
use Rattle.linear.specs.declared.row.Row.{Row}
use Rattle.linear.specs.Rows.{combination, can_combine, quotient_row, is_multiple, is_constant}
use Rattle.farkas.specs.declared.certificate.Step.{Step}
use Rattle.farkas.specs.declared.certificate.Case.{Case}
use Rattle.farkas.specs.declared.keeping.Starts.{Starts}
use Rattle.farkas.specs.declared.keeping.Starts.TheVariants.{Kept, Contradiction, TooMany}
use Rattle.farkas.specs.Keeping.{starts}

-- the row of a number from 1
abbrev pub row_at : List Row → ℕ → Option Row
row_at rows zero = None
row_at rows (suc i) = slice_get rows i

-- the sum of a step's rows, each times its multiplier
abbrev pub sum_by : Step → Row → Row → Row
sum_by step a b = combination step.first_times a step.second_times b

-- multipliers and divisor are above 0, products and sums are within the limit, and each number of the sum is a multiple of the divisor
abbrev pub is_exact : Step → Row → Row → Bool
is_exact step a b =
    int_lt (pos 0) step.first_times
    && (int_lt (pos 0) step.second_times
    && (int_lt (pos 0) step.divisor
    && (can_combine step.first_times a step.second_times b && is_multiple step.divisor (sum_by step a b))))

-- the row that a step makes of two rows
abbrev pub made_of : Step → Option Row → Option Row → Option Row
made_of step (Some a) (Some b) = if is_exact step a b then Some (quotient_row step.divisor (sum_by step a b)) else None
made_of step a b = None

-- the row that a step makes of the rows so far
abbrev pub made_by : List Row → Step → Option Row
made_by rows step = made_of step (row_at rows step.first) (row_at rows step.second)

-- a function of what there is
abbrev pub then_do : {A B : Type 0} → Option A → (A → Option B) → Option B
then_do None f = None
then_do (Some a) f = f a

-- the rows and those that the steps make, in order
abbrev pub replayed : List Row → List Step → Option (List Row)
replayed rows [] = Some rows
replayed rows (step ∷ steps) = then_do (made_by rows step) (λ row. replayed (rows ++ row ∷ []) steps)

-- a row has only zeros and a negative bound
abbrev pub is_closing : Row → Bool
is_closing row = is_constant row && int_lt row.bound (pos 0)

-- the last row does
abbrev pub closing : Option Row → Bool
closing None = false
closing (Some row) = is_closing row

abbrev pub ends_closing : List Row → Bool
ends_closing rows = closing (slice_get rows (length rows - 1))

abbrev pub closes : Option (List Row) → Bool
closes None = false
closes (Some rows) = ends_closing rows

-- the rows to start with, if there are not too many
abbrev pub starting_rows : Starts → Option (List Row)
starting_rows (Kept rows) = Some rows
starting_rows (Contradiction rows) = Some rows
starting_rows TooMany = None

-- a certificate of one case: it starts with the rows that are kept, and its steps end in a row that can't be true
abbrev pub IsValidCase : List Row → Case → Type 0
IsValidCase rows case = (starting_rows (starts rows) ≡ Some case.starts) × (closes (replayed case.starts case.steps) ≡ true)

-- one for each case, in order
abbrev pub AreValid : List (List Row) → List Case → Type 0
AreValid [] [] = Unit {0}
AreValid [] (certificate ∷ certificates) = ⊥
AreValid (case ∷ cases) [] = ⊥
AreValid (case ∷ cases) (certificate ∷ certificates) = IsValidCase case certificate × AreValid cases certificates
