-- The point that shows a case open: going back from the last variable, each takes its greatest lower bound, else its least upper
-- bound, else 0, as fractions over a common denominator.
use Rattle.std.specs.Prelude.{ℕ, ◌+◌, ◌-ℤ◌, ◌*ℤ◌, Bool, List, [], ◌∷◌, map, length, drop, reverse, ℤ, pos, neg_ℤ}
use Rattle.std.specs.Prelude.{Option, Some, None, if◌then◌else◌, int_lt, int_div}
use Rattle.std.specs.List.{fold}
use Rattle.linear.specs.declared.row.Row.{Row}
use Rattle.linear.specs.Numbers.{is_within, are_within, is_zero, gcd, gcd_of, scaled}
use Rattle.linear.specs.Rows.{coefficient}
use Rattle.farkas.specs.declared.elimination.Held.{Held}
use Rattle.farkas.specs.declared.points.Fraction.{Fraction}
use Rattle.farkas.specs.declared.points.Bounds.{Bounds}
use Rattle.farkas.specs.declared.points.Point.{Point}
use Rattle.farkas.specs.Validity.{then_do}

-- a number within the limit
abbrev pub limited : ℤ → Option ℤ
limited z = if is_within z then Some z else None

-- a number over a common part
abbrev pub part : ℤ → ℤ → ℤ
part z common = if is_zero common then z else int_div z common

-- a fraction in lowest terms, its denominator above 0
abbrev pub lowest : ℤ → ℤ → Fraction
lowest top bottom =
    if int_lt bottom (pos 0)
    then record { top = part (neg_ℤ top) (gcd top bottom); bottom = part (neg_ℤ bottom) (gcd top bottom) }
    else record { top = part top (gcd top bottom); bottom = part bottom (gcd top bottom) }

-- a number less a product
abbrev pub lessened : ℤ → ℤ → ℤ → Option ℤ
lessened z a x = then_do (limited (a *ℤ x)) (λ p. limited (z -ℤ p))

-- a number less the coefficients, each times its variable's numerator
abbrev pub spent : ℤ → List ℤ → List ℤ → Option ℤ
spent z [] values = Some z
spent z (a ∷ coefficients) [] = Some z
spent z (a ∷ coefficients) (x ∷ values) = then_do (lessened z a x) (λ rest. spent rest coefficients values)

-- what a row leaves of variable i, where the later variables have these numerators over this denominator
abbrev pub bound_of : ℕ → Point → Row → Option Fraction
bound_of i point row =
    then_do (limited (row.bound *ℤ point.denominator)) (λ whole.
    then_do (spent whole (drop (i + 1) row.coefficients) point.numerators) (λ top.
    then_do (limited (coefficient row i *ℤ point.denominator)) (λ bottom. Some (lowest top bottom))))

-- whether a fraction is below another
abbrev pub is_under : Fraction → Fraction → Option Bool
is_under a b = then_do (limited (a.top *ℤ b.bottom)) (λ left. then_do (limited (b.top *ℤ a.bottom)) (λ right. Some (int_lt left right)))

-- the greater one of two lower bounds, and the lesser one of two upper ones; of equal ones the first
abbrev pub greatest_of : Option Fraction → Fraction → Option Fraction
greatest_of None new = Some new
greatest_of (Some old) new = then_do (is_under old new) (λ under. Some (if under then new else old))

abbrev pub least_of : Option Fraction → Fraction → Option Fraction
least_of None new = Some new
least_of (Some old) new = then_do (is_under new old) (λ under. Some (if under then new else old))

-- the bounds with one more bound, a lower one where the coefficient is negative
abbrev pub tightened : ℕ → Bounds → Row → Fraction → Option Bounds
tightened i bounds row new =
    if int_lt (coefficient row i) (pos 0)
    then then_do (greatest_of bounds.low new) (λ low. Some (record { low = Some low; high = bounds.high }))
    else then_do (least_of bounds.high new) (λ high. Some (record { low = bounds.low; high = Some high }))

-- the bounds with one more row
abbrev pub bounded : ℕ → Point → Option Bounds → Held → Option Bounds
bounded i point None held = None
bounded i point (Some bounds) held =
    if is_zero (coefficient held.row i)
    then Some bounds
    else then_do (bound_of i point held.row) (λ new. tightened i bounds held.row new)

abbrev pub no_bounds : Bounds
no_bounds = record { low = None; high = None }

-- the greatest lower bound, else the least upper bound, else 0
abbrev pub value_within : Option Fraction → Option Fraction → Fraction
value_within (Some low) high = low
value_within None (Some high) = high
value_within None None = record { top = pos 0; bottom = pos 1 }

abbrev pub value_of : Bounds → Fraction
value_of bounds = value_within bounds.low bounds.high

-- numbers, each within the limit
abbrev pub all_limited : List ℤ → Option (List ℤ)
all_limited numbers = if are_within numbers then Some numbers else None

-- a point of a first numerator and the others
abbrev pub with_others : ℤ → ℤ → List ℤ → Option Point
with_others denominator numerator others = then_do (all_limited others)
    (λ numerators. Some (record { denominator = denominator; numerators = numerator ∷ numerators }))

-- the point with a value for one variable more, before the others
abbrev pub with_value : Point → Fraction → Option Point
with_value point value =
    then_do (limited (part point.denominator (gcd point.denominator value.bottom) *ℤ value.bottom)) (λ denominator.
    then_do (limited (value.top *ℤ part point.denominator (gcd point.denominator value.bottom))) (λ numerator.
    with_others denominator numerator (scaled (part value.bottom (gcd point.denominator value.bottom)) point.numerators)))

-- the same from the rows that were kept before variable i went
abbrev pub extended : ℕ → List Held → Point → Option Point
extended i stage point = then_do (fold (bounded i point) (Some no_bounds) stage) (λ bounds. with_value point (value_of bounds))

-- from the last variable back
abbrev pub went_back : List (List Held) → Point → Option Point
went_back [] point = Some point
went_back (stage ∷ earlier) point = then_do (extended (length earlier) stage point) (λ more. went_back earlier more)

abbrev pub no_point : Point
no_point = record { denominator = pos 1; numerators = [] }

-- a point over the least denominator
abbrev pub least_point : Point → Point
least_point point = record {
  denominator = part point.denominator (gcd_of (point.denominator ∷ point.numerators));
  numerators = map (λ x. part x (gcd_of (point.denominator ∷ point.numerators))) point.numerators;
}

-- the point of a case, from the rows that were kept before each variable, or none where a number is past the limit
abbrev pub point_of : List (List Held) → Option Point
point_of stages = then_do (went_back (reverse stages) no_point) (λ point. Some (least_point point))
