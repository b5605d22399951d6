-- Elimination of the variables of a case, one by one, after Fourier and Motzkin.
use Rattle.std.specs.Prelude.{ℕ, zero, suc, ◌+◌, Bool, List, [], ◌∷◌, ◌++◌, map, length, set, ℤ, pos, neg_ℤ, if◌then◌else◌, int_lt, int_div, nat_lt}
use Rattle.std.specs.List.{fold, filter}
use Rattle.linear.specs.declared.row.Row.{Row}
use Rattle.linear.specs.Numbers.{is_zero, gcd}
use Rattle.linear.specs.Rows.{coefficient, combination, can_combine, divisor_of, reduced}
use Rattle.farkas.specs.declared.certificate.Step.{Step}
use Rattle.farkas.specs.declared.elimination.Held.{Held}
use Rattle.farkas.specs.declared.elimination.Solved.{Solved}
use Rattle.farkas.specs.declared.elimination.Solved.TheVariants as solved_as
use Rattle.farkas.specs.declared.keeping.Fate.{Fate}
use Rattle.farkas.specs.declared.keeping.Fate.TheVariants.{Closes, Drops, Replaces, Joins}
use Rattle.farkas.specs.Keeping.{fate, most_rows}

-- how far an elimination has come: the rows that are kept, each with its number among all rows made, and the steps made
pub data Progress : Type 0 where
  Going : List Held → List Step → Progress
  Closed : List Step → Progress
  RowsPast : Progress
  NumbersPast : Progress

-- the kept rows in which a variable has a positive, a negative and no coefficient
abbrev pub ups : ℕ → List Held → List Held
ups i held = filter (λ h. int_lt (pos 0) (coefficient h.row i)) held

abbrev pub downs : ℕ → List Held → List Held
downs i held = filter (λ h. int_lt (coefficient h.row i) (pos 0)) held

abbrev pub others : ℕ → List Held → List Held
others i held = filter (λ h. is_zero (coefficient h.row i)) held

-- how many times the two rows are taken, so that the variable goes
abbrev pub up_times : ℕ → Row → Row → ℤ
up_times i up down = int_div (neg_ℤ (coefficient down i)) (gcd (coefficient up i) (coefficient down i))

abbrev pub down_times : ℕ → Row → Row → ℤ
down_times i up down = int_div (coefficient up i) (gcd (coefficient up i) (coefficient down i))

abbrev pub sum_of : ℕ → Row → Row → Row
sum_of i up down = combination (up_times i up down) up (down_times i up down) down

abbrev pub can_sum : ℕ → Row → Row → Bool
can_sum i up down = can_combine (up_times i up down) up (down_times i up down) down

-- the step that makes the sum and divides it
abbrev pub step_of : ℕ → Held → Held → Step
step_of i up down = record {
  first = up.number;
  first_times = up_times i up.row down.row;
  second = down.number;
  second_times = down_times i up.row down.row;
  divisor = divisor_of (sum_of i up.row down.row);
}

-- the row that a step after these makes, numbered on from the starting rows
abbrev pub made : ℕ → List Step → Row → Held
made count steps row = record { row = row; number = count + suc (length steps) }

-- a step's row with this fate
abbrev pub taken : ℕ → List Held → List Step → Step → Row → Fate → Progress
taken count held steps step row Closes = Closed (steps ++ step ∷ [])
taken count held steps step row Drops = Going held steps
taken count held steps step row (Replaces k) = Going (set held k (made count steps row)) (steps ++ step ∷ [])
taken count held steps step row Joins = if nat_lt (length held) most_rows then Going (held ++ made count steps row ∷ []) (steps ++ step ∷ []) else RowsPast

abbrev pub row_of : Held → Row
row_of h = h.row

-- what becomes of a row beside kept ones
abbrev pub fate_of : List Held → Row → Fate
fate_of held row = fate (map row_of held) row

-- one pair of rows
abbrev pub paired : ℕ → ℕ → Held → Progress → Held → Progress
paired count i up (Going held steps) down =
    if can_sum i up.row down.row
    then taken count held steps (step_of i up down) (reduced (sum_of i up.row down.row)) (fate_of held (reduced (sum_of i up.row down.row)))
    else NumbersPast
paired count i up ended down = ended

-- each row of a list with each in which the variable has a negative coefficient
abbrev pub met_all : ℕ → ℕ → List Held → Progress → List Held → Progress
met_all count i held start rows = fold (λ p up. fold (paired count i up) p (downs i held)) start rows

-- a variable goes: each row with a positive coefficient meets each with a negative one
abbrev pub eliminated : ℕ → ℕ → List Held → List Step → Progress
eliminated count i held steps = met_all count i held (Going (others i held) steps) (ups i held)

-- the rest of an elimination at variable i
abbrev pub continued : ℕ → (List Held → List Step → Solved) → Progress → Solved
continued i next (Going held steps) = next held steps
continued i next (Closed steps) = solved_as.Closed steps
continued i next RowsPast = solved_as.RowsPast i
continued i next NumbersPast = solved_as.NumbersPast

-- so many variables from i on go, one by one, where the rows before each variable so far are given
abbrev pub solved : ℕ → ℕ → ℕ → List Held → List Step → List (List Held) → Solved
solved count zero i held steps stages = solved_as.Open stages
solved count (suc left) i held steps stages = continued i (λ next made. solved count left (suc i) next made (stages ++ held ∷ []))
    (eliminated count i held steps)

-- rows with their numbers
abbrev pub numbered : ℕ → List Row → List Held
numbered n [] = []
numbered n (row ∷ rows) = record { row = row; number = n } ∷ numbered (suc n) rows
