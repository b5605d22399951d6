-- Rows: each says that the sum of its coefficients, each times its variable, is at most its bound. The variables of a problem are
-- numbered from 0, and a coefficient that a row lacks at its end is 0.
use Rattle.std.specs.Prelude.{ℕ, suc, ◌+ℤ◌, ◌-ℤ◌, ◌*ℤ◌, ◌≤ℤ◌, Bool, ◌&&◌, List, [], ◌∷◌, ℤ, pos, int_div, if◌then◌else◌, slice_index_or}
use Rattle.std.specs.List.{list_all}
use Rattle.linear.specs.declared.row.Row.{Row}
use Rattle.linear.specs.Numbers.{is_zero, are_within, are_multiples, scaled, divided, gcd_of}

-- the sum of the coefficients, each times its variable's value
abbrev pub total : List ℤ → (ℕ → ℤ) → ℤ
total [] value = pos 0
total (a ∷ xs) value = (a *ℤ value 0) +ℤ total xs (λ i. value (suc i))

-- a row is true of the variables' values
abbrev pub IsTrueOf : (ℕ → ℤ) → Row → Type 0
IsTrueOf value row = total row.coefficients value ≤ℤ row.bound

-- the coefficient of a variable
abbrev pub coefficient : Row → ℕ → ℤ
coefficient row i = slice_index_or row.coefficients i (pos 0)

-- all numbers of a row
abbrev pub numbers_of : Row → List ℤ
numbers_of row = row.bound ∷ row.coefficients

-- number by number, where one that is missing at the end is 0
abbrev pub added : List ℤ → List ℤ → List ℤ
added [] ys = ys
added (a ∷ xs) [] = a ∷ xs
added (a ∷ xs) (b ∷ ys) = (a +ℤ b) ∷ added xs ys

-- m times the first row plus n times the second
abbrev pub combination : ℤ → Row → ℤ → Row → Row
combination m a n b = record {
  coefficients = added (scaled m a.coefficients) (scaled n b.coefficients);
  bound = (m *ℤ a.bound) +ℤ (n *ℤ b.bound);
}

-- each product and each sum in that is within the limit
abbrev pub can_combine : ℤ → Row → ℤ → Row → Bool
can_combine m a n b = are_within (scaled m (numbers_of a)) && (are_within (scaled n (numbers_of b)) && are_within (numbers_of (combination m a n b)))

-- the greatest number that divides all numbers of a row
abbrev pub divisor_of : Row → ℤ
divisor_of row = gcd_of (numbers_of row)

-- a row whose numbers are each divided by d
abbrev pub quotient_row : ℤ → Row → Row
quotient_row d row = record { coefficients = divided d row.coefficients; bound = int_div row.bound d }

-- a row divided by the greatest number that divides all of its numbers; one of zeros alone stays
abbrev pub reduced : Row → Row
reduced row = if is_zero (divisor_of row) then row else quotient_row (divisor_of row) row

-- all coefficients are 0
abbrev pub is_constant : Row → Bool
is_constant row = list_all is_zero row.coefficients

-- two lists of coefficients are the same, where one that is missing at the end is 0
abbrev pub are_same : List ℤ → List ℤ → Bool
are_same [] ys = list_all is_zero ys
are_same (a ∷ xs) [] = is_zero a && list_all is_zero xs
are_same (a ∷ xs) (b ∷ ys) = is_zero (a -ℤ b) && are_same xs ys

-- each number of a row is a multiple of d
abbrev pub is_multiple : ℤ → Row → Bool
is_multiple d row = are_multiples d (numbers_of row)
