-- The numbers that rows are made of: unbounded integers, of which those past the limit are refused.
use Rattle.std.specs.Prelude.{ℕ, zero, suc, ◌+◌, ◌%◌, ◌^◌, ◌*ℤ◌, Bool, ◌&&◌, List, map, ℤ, pos, unsigned_abs, int_div, int_rem, nat_lt, ◌==◌, if◌then◌else◌}
use Rattle.std.specs.List.{fold, list_all}

-- a number is within the limit: it is at most 2^127 - 1 in size
abbrev pub is_within : ℤ → Bool
is_within z = nat_lt (unsigned_abs z) (2 ^ 127)

abbrev pub are_within : List ℤ → Bool
are_within numbers = list_all is_within numbers

-- a number is 0
abbrev pub is_zero : ℤ → Bool
is_zero z = unsigned_abs z == 0

-- each number times m
abbrev pub scaled : ℤ → List ℤ → List ℤ
scaled m numbers = map (λ x. m *ℤ x) numbers

-- each number divided by d, rounded toward 0
abbrev pub divided : ℤ → List ℤ → List ℤ
divided d numbers = map (λ x. int_div x d) numbers

-- each number is a multiple of d
abbrev pub are_multiples : ℤ → List ℤ → Bool
are_multiples d numbers = list_all (λ x. is_zero (int_rem x d)) numbers

-- the greatest number up to n that passes a test, or 0
abbrev pub greatest : (ℕ → Bool) → ℕ → ℕ
greatest test zero = zero
greatest test (suc n) = if test (suc n) then suc n else greatest test n

-- the greatest natural number that divides both, or 0 where both are 0
abbrev pub divisor_of_sizes : ℕ → ℕ → ℕ
divisor_of_sizes m n = greatest (λ d. m % d == 0 && n % d == 0) (m + n)

-- the greatest number that divides both, or 0 where both are 0
unfoldable pub gcd : ℤ → ℤ → ℤ
gcd a b = pos (divisor_of_sizes (unsigned_abs a) (unsigned_abs b))

-- the greatest number that divides all, or 0 where all are 0
abbrev pub gcd_of : List ℤ → ℤ
gcd_of numbers = fold gcd (pos 0) numbers
