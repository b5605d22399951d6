-- The limits of integers, widths and lengths.
use Rattle.std.specs.Prelude.{ℕ, ◌^◌, ℤ, pos, negsuc, nat_le, nat_lt, nat_abs, Bool, Option, Some, None, if◌then◌else◌}

-- the largest integer of a model, and of a number of a type
unfoldable pub largest : ℕ
largest = 2 ^ 126

-- whether an integer is from the least to the largest
abbrev pub is_small : ℤ → Bool
is_small z = nat_le (nat_abs z) largest

-- whether that many bits make a value
abbrev pub is_width : ℕ → Bool
is_width n = nat_le n 128

-- whether that many items make a vector
abbrev pub is_length : ℕ → Bool
is_length n = nat_le n 4096

-- 2 to an exponent from 0 to 126
abbrev pub small_power : ℤ → Option ℤ
small_power (pos n) = if nat_lt n 127 then Some (pos (2 ^ n)) else None
small_power (negsuc n) = None
